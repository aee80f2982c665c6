-- What an auction changes: the levels of both sides from which it takes.
use Rattle.std.proofs.Common.{◌≡◌, ℕ, Option, Some, None, IfSome, List, [], ◌∷◌, ◌++◌, map, take, drop, length, refl, ap, ◌∙◌}
use Rattle.std.proofs.{Math.Seq.take-append_seam, lemmas.List.drop_at}
use Rattle.order_book.specs.Queue.{taken}
use Rattle.order_book.specs.Book.{Book, IsBook}
use Rattle.order_book.specs.{declared.side.Side.TheVariants.Buy, declared.side.Side.TheVariants.Sell, declared.side.Side.Side, declared.auction.Auction.Auction}
use Rattle.order_book.specs.Names.{IsStep}
use Rattle.order_book.proofs.CallerLemmas.{goes-nowhere}
use Rattle.level_feed.specs.declared.update.LevelUpdate.{LevelUpdate}
use Rattle.level_feed.specs.Feed.{prices_taken, refreshed, update_of, updates_at, updates_of_auction, AreChanges, Follows, Publishes}
use Rattle.level_feed.proofs.Following.{follows-append}
use Rattle.level_feed.proofs.Incoming.{changes-append, changes-less, publishes-both, taken-apart, taken-kept, taken-less}

-- what follows from a fact about the value that there is
pub where_some : {X : Type 0} {P : X → Type 0} {Q : X → Type 0} (o : Option X) → IfSome o P → ((x : X) → P x → Q x) → IfSome o Q
where_some None fact more = tt
where_some (Some x) fact more = more x fact

pub as_some : {X Q : Type 0} {P : X → Type 0} (o : Option X) → (o ≡ None → ⊥) → IfSome o P → ((x : X) → P x → Q) → Q
as_some None some fact more = absurd (some refl)
as_some (Some x) some fact more = more x fact

module _ {T : Type 0} where
  module _ (old new : Book T) (a : Auction) (lawful : IsBook old) (bids : new.bids ≡ taken a.quantity old.bids) (asks : new.asks ≡ taken a.quantity old.asks) where
    pub publishes-auctioned : Publishes old new (updates_of_auction old new a)
    publishes-auctioned =
        publishes-both old new Sell (prices_taken a.quantity old.bids) (prices_taken a.quantity old.asks)
        (taken-apart old.bids new.bids a.quantity lawful.bids bids) (taken-apart old.asks new.asks a.quantity lawful.asks asks)
        (taken-kept old.bids new.bids a.quantity lawful.bids bids) (taken-kept old.asks new.asks a.quantity lawful.asks asks)

    pub changes-auctioned : AreChanges old (updates_of_auction old new a)
    changes-auctioned =
        changes-append old (updates_at new Buy (prices_taken a.quantity old.bids)) (updates_at new Sell (prices_taken a.quantity old.asks))
        (changes-less old new Buy (prices_taken a.quantity old.bids) (taken-less old.bids new.bids a.quantity lawful.bids bids))
        (changes-less old new Sell (prices_taken a.quantity old.asks) (taken-less old.asks new.asks a.quantity lawful.asks asks))

    -- a list that led to the book before leads to it afterwards
    pub follows-auctioned : (start : Book T) (before after : List LevelUpdate) → after ≡ before ++ updates_of_auction old new a → Follows start old before → Follows start new after
    follows-auctioned start before after appended led = rw appended (follows-append start old new before (updates_of_auction old new a) led publishes-auctioned.follows)

  -- updates of old levels, refreshed
  refreshed-at : (old new : Book T) (side : Side) (ps : List ℕ) → map (refreshed new) (updates_at old side ps) ≡ updates_at new side ps
  refreshed-at old new side [] = refl
  refreshed-at old new side (p ∷ ps) = ap (λ us. update_of new side p ∷ us) (refreshed-at old new side ps)

  map-both : (new : Book T) (us vs : List LevelUpdate) → map (refreshed new) (us ++ vs) ≡ map (refreshed new) us ++ map (refreshed new) vs
  map-both new [] vs = refl
  map-both new (u ∷ us) vs = ap (λ ws. refreshed new u ∷ ws) (map-both new us vs)

  pub auction-refreshed : (old new : Book T) (a : Auction) → map (refreshed new) (updates_of_auction old old a) ≡ updates_of_auction old new a
  auction-refreshed old new a =
      map-both new (updates_at old Buy (prices_taken a.quantity old.bids)) (updates_at old Sell (prices_taken a.quantity old.asks))
      ∙ ap (λ us. us ++ map (refreshed new) (updates_at old Sell (prices_taken a.quantity old.asks))) (refreshed-at old new Buy (prices_taken a.quantity old.bids))
      ∙ ap (λ us. updates_at new Buy (prices_taken a.quantity old.bids) ++ us) (refreshed-at old new Sell (prices_taken a.quantity old.asks))

  -- the list after an auction whose levels were noted and refreshed
  pub auction-appended : (old new : Book T) (auction a : Auction) → auction ≡ a → (before noted after : List LevelUpdate) → noted ≡ before ++ updates_of_auction old old auction
      → after ≡ take (length before) noted ++ map (refreshed new) (drop (length before) noted) → after ≡ before ++ updates_of_auction old new a
  auction-appended old new auction a same before noted after noted_is after_is =
      let both : noted ≡ before ++ updates_of_auction old old a = noted_is ∙ ap (λ (x : Auction). before ++ updates_of_auction old old x) same in
      after_is ∙ ap (λ us. take (length before) us ++ map (refreshed new) (drop (length before) us)) both
      ∙ ap (λ us. us ++ map (refreshed new) (drop (length before) (before ++ updates_of_auction old old a))) (take-append_seam before (updates_of_auction old old a))
      ∙ ap (λ us. before ++ map (refreshed new) us) (drop_at before (updates_of_auction old old a) (length before) refl)
      ∙ ap (λ us. before ++ us) (auction-refreshed old new a)

  -- a book that stays as it is
  pub stays : (b : Book T) → IsStep b b
  stays b = record { bids = λ same. goes-nowhere b.bids b.bids refl; asks = λ same. goes-nowhere b.asks b.asks refl }
