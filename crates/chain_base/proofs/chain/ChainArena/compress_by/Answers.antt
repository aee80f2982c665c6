use Rattle.std.proofs.Common.{ap, ◌∙◌}
use Rattle.arena_base.specs.Compression.{compressed_generation, compression_overflows}
use Rattle.chain_base.proofs.Compressing.{paired-before, paired-after, Lies-compressed, chain-compressed, compression-of}
use Rattle.chain_base.proofs.{Kept.compresses-items, Sound.IsSound-viewed}
use Rattle.chain_base.proofs.chain.ChainArena.compress_by.Goals as goal

pub name_compressed_indexes-first-requires : goal.name_compressed_indexes-first-requires
name_compressed_indexes-first-requires g c = paired-before c.self.inside.arena _ _ _ c.self.invariant

pub name_compressed_indexes-self-inside-requires : goal.name_compressed_indexes-self-inside-requires
name_compressed_indexes-self-inside-requires g c =
    let places = c.name_compressed_indexes-first.ensures.names in
    let items = compresses-items g.P.BasePtr.numbers g.M.MapEntry.step _ (λ m. m.map) _ _ _ c.compress_by-overflow.ensures.after in
    paired-after c.self.inside.arena _ _ _ c.self.invariant c.name_compressed_indexes-first.new.arena _ places
    g.P.BasePtr.numbers g.M.MapEntry.step _ c.args.map c.compress_by-overflow.new.self items places.begins

pub invariant_of-self : goal.invariant_of-self
invariant_of-self g c =
    let places = c.name_compressed_indexes-first.ensures.names in
    let items = compresses-items g.P.BasePtr.numbers g.M.MapEntry.step _ (λ m. m.map) _ _ _ c.compress_by-overflow.ensures.after in
    let done = Lies-compressed c.self.inside.arena _ _ _ c.self.invariant c.name_compressed_indexes-first.new.arena _ places
    g.P.BasePtr.numbers g.M.MapEntry.step _ c.args.map c.compress_by-overflow.new.self items places.begins
    c.name_compressed_indexes-self-inside.new.arena _ c.name_compressed_indexes-self-inside.ensures.names c.compress_by-overflow.ensures.fresh in
    done.laid

pub returns : goal.returns
returns g c =
    let places = c.name_compressed_indexes-first.ensures.names in
    let items = compresses-items g.P.BasePtr.numbers g.M.MapEntry.step _ (λ m. m.map) _ _ _ c.compress_by-overflow.ensures.after in
    let done = chain-compressed c.self.inside.arena _ _ _ c.self.invariant c.name_compressed_indexes-first.new.arena _ places
    g.P.BasePtr.numbers g.M.MapEntry.step _ c.args.map c.compress_by-overflow.new.self items places.begins
    c.name_compressed_indexes-self-inside.new.arena _ c.name_compressed_indexes-self-inside.ensures.names c.compress_by-overflow.ensures.fresh in
    let generation = ap (λ a. a.generation) places.kept ∙ ap (λ v. v.generation) c.self.view_is in
    record {
      after =
          compression-of g.P.BasePtr.numbers g.M.MapEntry.step c.args.map _ c.args.self.now _ _ _ c.self.view_is (ap (compressed_generation g.P.Gen.BasePtrGen.greatest c.args.reset) generation) done;
      overflow = c.compress_by-overflow.ensures.overflow ∙ ap (compression_overflows g.P.Gen.BasePtrGen.greatest c.args.reset) generation;
      sound = IsSound-viewed _ _ c.self.inside.arena _ _ c.self.invariant _ c.self.view_is c.name_compressed_indexes-first.ensures.sound;
    }
