-- A general who will make a further access makes it.
use Rattle.std.proofs.Common.{◌≡◌, ℕ, zero, suc, [], ◌∷◌, ◌++◌, length, true, false, refl, sym, subst, Option, Some, None}
use Rattle.std.specs.Prelude.{slice_get, replicate}
use Rattle.board.specs.Board.{Access, reply}
use Rattle.world.specs.declared.event.Event.TheVariants.{Tick}
use Rattle.round.specs.Activation.{Activation, Turn, Goes, Asks, Ended, turn}
use Rattle.world.specs.declared.part.Progress.{Progress}
use Rattle.world.specs.declared.part.Progress.TheVariants.{Acting, Silent, Posted}
use Rattle.world.specs.Kind.{Kind, World, served, run}
use Rattle.world.specs.KindLists.{ticks_named, until_access, further_turns}
use Rattle.world.proofs.Listing.{set-here}
use Rattle.world.proofs.Replays.{tick_is}
use Rattle.campaign_orders.specs.Orders.{asks_or, asks_within, will_ask}

-- One more access, of this general in the open round.
pub record OneMore (w v : World) (g : ℕ) : Type 0 where
  pub made : Access
  pub ledger : v.ledger ≡ w.ledger ++ made ∷ []
  pub general : made.general ≡ g
  pub round : made.round ≡ suc (length w.closed)

module _ (K : Kind) where
  one_by : (fuel : ℕ) (w : World) (g : ℕ) (a : Activation) → slice_get w.parts g ≡ Some (Acting a)
      → ((v : World) (b : Activation) → slice_get v.parts g ≡ Some (Acting b) → asks_within fuel b ≡ true → OneMore v (run K v (replicate (until_access fuel b) (Tick g))) g)
      → (o : Turn) → turn a ≡ o → asks_or (asks_within fuel) o ≡ true → OneMore w (run K w (replicate (further_turns (until_access fuel) o) (Tick g))) g
  one_by fuel w g a at again (Goes b) e will =
      let v = served w g (Goes b) in
      let c = again v b (set-here w.parts g (Acting b) (Acting a) at) will in
      let here : OneMore w (run K v (replicate (until_access fuel b) (Tick g))) g = record { made = c.made; ledger = c.ledger; general = c.general; round = c.round } in
      let A : World → Type 0 = λ u. OneMore w (run K u (replicate (until_access fuel b) (Tick g))) g in
      subst A (sym (tick_is K w g a (Goes b) at e)) here
  one_by fuel w g a at again (Asks q f) e will =
      let here : OneMore w (served w g (Asks q f)) g =
      record { made = record { general = g; round = suc (length w.closed); request = q; reply = reply w.words q }; ledger = refl; general = refl; round = refl } in
      let A : World → Type 0 = λ u. OneMore w u g in
      subst A (sym (tick_is K w g a (Asks q f) at e)) here
  one_by fuel w g a at again Ended e will = absurd (let f : false ≡ true = will in cc)

  one_more : (fuel : ℕ) (w : World) (g : ℕ) (a : Activation) → slice_get w.parts g ≡ Some (Acting a) → asks_within fuel a ≡ true → OneMore w (run K w (replicate (until_access fuel a) (Tick g))) g
  one_more zero w g a at will = absurd (let f : false ≡ true = will in cc)
  one_more (suc fuel) w g a at will = one_by fuel w g a at (λ v b at' will'. one_more fuel v g b at' will') (turn a) refl will

  pub past_by : (w : World) (g : ℕ) (o : Option Progress) → slice_get w.parts g ≡ o → will_ask o ≡ true → OneMore w (run K w (ticks_named g o)) g
  past_by w g None at will = absurd (let f : false ≡ true = will in cc)
  past_by w g (Some (Acting a)) at will = one_more (length a.program) w g a at will
  past_by w g (Some Silent) at will = absurd (let f : false ≡ true = will in cc)
  past_by w g (Some Posted) at will = absurd (let f : false ≡ true = will in cc)
