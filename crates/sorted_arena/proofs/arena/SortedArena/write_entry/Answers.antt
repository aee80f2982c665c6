use Rattle.std.proofs.Common.{◌≡◌, ◌∙◌, refl, sym, ap}
use Rattle.std.specs.{Option.option_map, Option.option_copied_mut}
use Rattle.listing.proofs.ChainLemmas.{length-with_item_among}
use Rattle.listing.specs.Chain.{with_item_among}
use Rattle.sorted_arena.specs.Sorted.{Sorted, get}
use Rattle.sorted_arena.proofs.{Cutting.some-same, Cutting.written-found, Numbering.compact-written, Taking.cut-found, Taking.cut-next_of, Writing.lent-some, Writing.written-at}
use Rattle.sorted_arena.proofs.arena.SortedArena.write_entry.Goals as goal

pub unwrap-requires : goal.unwrap-requires
unwrap-requires g c =
    let p = g.P.BasePtr.numbers c.unwrap-p.result in
    let found = cut-found g.P.Gen.BasePtrGen.greatest c.args.self.now c.next-after.ensures.sound.distinct (option_map g.P.BasePtr.numbers c.args.next) p (ap (option_map g.P.BasePtr.numbers) c.unwrap-p.ensures) c.requires.named in
    lent-some c.get_mut.result _ (c.get_mut.ensures.value.value ∙ ap (λ (a : Sorted g.row.K.Denot g.row.V.Denot). get a p) c.self.view_is ∙ found)

pub invariant_of-self : goal.invariant_of-self
invariant_of-self g c =
    let read = ap option_copied_mut (sym c.unwrap.ensures) ∙ c.get_mut.ensures.value.value in
    record {
      order = record {
        sorted = written-found g.K.Ord.cmp c.self.inside.pairs.list.entries (g.P.BasePtr.numbers c.unwrap-p.result) c.unwrap.result.now c.f.new.arg3 read c.self.invariant.order.sorted;
        unlimited = c.self.invariant.order.unlimited;
      };
      compact = λ is. compact-written c.self.inside.pairs.list _ _ (length-with_item_among c.self.inside.pairs.list.entries _ _) (c.self.invariant.compact is);
    }

pub returns-clause-writes : goal.returns-clause-writes
returns-clause-writes g c at =
    let p = g.P.BasePtr.numbers c.unwrap-p.result in
    let distinct = c.next-after.ensures.sound.distinct in
    let named = ap (option_map g.P.BasePtr.numbers) c.unwrap-p.ensures in
    let found = cut-found g.P.Gen.BasePtrGen.greatest c.args.self.now distinct (option_map g.P.BasePtr.numbers c.args.next) p named at in
    let read = ap option_copied_mut (sym c.unwrap.ensures) ∙ c.get_mut.ensures.value.value ∙ ap (λ (a : Sorted g.row.K.Denot g.row.V.Denot). get a p) c.self.view_is in
    let same : c.unwrap.result.now ≡ at.entry.item = some-same (read ∙ found) in
    record {
      v = c.f.new.arg3;
      told = record {
        key = c.k_v_mut-v.result.0;
        value = c.k_v_mut-v.result.1;
        shows_key = c.k_v_mut-v.ensures.key ∙ ap (λ (x : g.row.K.Denot × g.row.V.Denot). x.0) same;
        shows_value = c.k_v_mut-v.ensures.value ∙ ap (λ (x : g.row.K.Denot × g.row.V.Denot). x.1) same;
        left = _;
        called = c.f.ensures;
        leaves = refl;
      };
      written = ap (λ (a : Sorted g.row.K.Denot g.row.V.Denot). record a { entries = with_item_among a.entries p.0 (c.unwrap.result.now.0, c.f.new.arg3) }) c.self.view_is
          ∙ written-at c.args.self.now distinct (option_map g.P.BasePtr.numbers c.args.next) p named at c.unwrap.result.now same c.f.new.arg3;
      next_is = cut-next_of g.P.Gen.BasePtrGen.greatest c.args.self.now distinct (option_map g.P.BasePtr.numbers c.args.next) p named at (option_map g.P.BasePtr.numbers c.next-after.result) c.next-after.ensures.value;
    }
