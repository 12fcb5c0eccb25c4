-- Named generals make the accesses of a ledger again.
use Rattle.std.proofs.Common.{◌≡◌, ◌≢◌, ℕ, zero, suc, ◌≤◌, List, [], ◌∷◌, ◌++◌, length, true, refl, sym, ap, subst, ◌∙◌, Option, Some, arith}
use Rattle.std.specs.Prelude.{slice_get, replicate}
use Rattle.board.specs.Board.{IsBoard, Access, reply, next}
use Rattle.world.specs.declared.event.Event.TheVariants.{Tick}
use Rattle.round.specs.Letters.{Letter}
use Rattle.round.specs.Activation.{Activation, Turn, Goes, Asks, Ended, turn, has_ended}
use Rattle.world.specs.Part.{Progress, Acting}
use Rattle.world.specs.Kind.{Kind, World, served, ticked, happen, run}
use Rattle.round.specs.Runs.{Onward, Runs}
use Rattle.world.specs.KindLists.{further_turns, until_access}
use Rattle.world.proofs.Listing.{set-here, set-other}
use Rattle.round.proofs.Going.{IsGoing, going_zero, over_ended}
use Rattle.world.proofs.Complete.{Within, WithinAfter, turn_left}
use Rattle.world.proofs.Ways.{access}

-- States that the named general's ticks lead to his next access, and that the others' parts stay the same.
pub record Comes (w v : World) (g : ℕ) (x : Access) (t : List Access) (end : Activation) : Type 0 where
  pub ledger : v.ledger ≡ w.ledger ++ x ∷ []
  pub words : v.words ≡ next w.words x.request
  pub k : ℕ
  pub now : Activation
  pub at : slice_get v.parts g ≡ Some (Acting now)
  pub way : Runs k now t end
  pub others : (h : ℕ) → h ≢ g → slice_get v.parts h ≡ slice_get w.parts h

no_access : (k : ℕ) (a : Activation) (x : Access) (t : List Access) (end : Activation) → has_ended a ≡ true → Runs k a (x ∷ t) end → ⊥
no_access zero a x t end over way = (let e = way.0 in cc)
no_access (suc k) a x t end over way = (let A : Turn → Type 0 = λ o. Onward (Runs k) o (x ∷ t) end in subst A (over_ended a over) way)

within_none : (a : Activation) → Within 0 a → has_ended a ≡ true
unfolding Within
within_none a h = by h.0 h.1 h.2
  where
    by : (n : ℕ) → n ≤ 0 → IsGoing n a → has_ended a ≡ true
    by zero le going = going_zero a going
    by (suc n) le going = absurd (omega arith)

module _ (K : Kind) where
  pub tick_is : (w : World) (g : ℕ) (a : Activation) (o : Turn) → slice_get w.parts g ≡ Some (Acting a) → turn a ≡ o → happen K w (Tick g) ≡ served w g o
  tick_is w g a o at e = ap (λ (p : Option Progress). ticked w g p) at ∙ ap (λ (t : Turn). served w g t) e

  reach_by : (fuel : ℕ) (w : World) (g : ℕ) (a : Activation) (x : Access) (t : List Access) (end : Activation) → slice_get w.parts g ≡ Some (Acting a) → IsBoard w.words
      → x.general ≡ g → x.round ≡ suc (length w.closed) → x.reply ≡ reply w.words x.request
      → ((v : World) (b : Activation) (j : ℕ) → slice_get v.parts g ≡ Some (Acting b) → v.words ≡ w.words → v.closed ≡ w.closed → Within fuel b → Runs j b (x ∷ t) end
      → Comes v (run K v (replicate (until_access fuel b) (Tick g))) g x t end)
      → (o : Turn) → turn a ≡ o → WithinAfter fuel o → (k : ℕ) → Onward (Runs k) o (x ∷ t) end
      → Comes w (run K w (replicate (further_turns (until_access fuel) o) (Tick g))) g x t end
  reach_by fuel w g a x t end at board by in_round legal again (Goes b) e within k way =
      let v = served w g (Goes b) in
      let c = again v b k (set-here w.parts g (Acting b) (Acting a) at) refl refl within way in
      let V = run K v (replicate (until_access fuel b) (Tick g)) in
      let here : Comes w V g x t end = record {
        ledger = c.ledger;
        words = c.words;
        k = c.k;
        now = c.now;
        at = c.at;
        way = c.way;
        others = λ h ne. c.others h ne ∙ set-other w.parts g h (Acting b) ne;
      } in
      let A : World → Type 0 = λ u. Comes w (run K u (replicate (until_access fuel b) (Tick g))) g x t end in
      subst A (sym (tick_is w g a (Goes b) at e)) here
  reach_by fuel w g a x t end at board by in_round legal again (Asks q f) e within k way =
      let answer = reply w.words q in
      let replied : x.reply ≡ answer = legal ∙ ap (reply w.words) way.0 in
      let made : access g (suc (length w.closed)) q answer ≡ x = sym (λ i. access (by i) (in_round i) (way.0 i) (replied i)) in
      let here : Comes w (served w g (Asks q f)) g x t end = record {
        ledger = ap (λ (y : Access). w.ledger ++ y ∷ []) made;
        words = ap (next w.words) (sym way.0);
        k = k;
        now = f answer;
        at = set-here w.parts g (Acting (f answer)) (Acting a) at;
        way = (let A : List ℕ → Type 0 = λ r. Runs k (f r) t end in subst A replied way.1);
        others = λ h ne. set-other w.parts g h (Acting (f answer)) ne;
      } in
      let A : World → Type 0 = λ u. Comes w u g x t end in
      subst A (sym (tick_is w g a (Asks q f) at e)) here
  reach_by fuel w g a x t end at board by in_round legal again Ended e within k way = absurd way

  pub reach : (fuel k : ℕ) (w : World) (g : ℕ) (a : Activation) (x : Access) (t : List Access) (end : Activation) → slice_get w.parts g ≡ Some (Acting a) → IsBoard w.words
      → x.general ≡ g → x.round ≡ suc (length w.closed) → x.reply ≡ reply w.words x.request → Within fuel a → Runs k a (x ∷ t) end
      → Comes w (run K w (replicate (until_access fuel a) (Tick g))) g x t end
  reach zero k w g a x t end at board by in_round legal within way = absurd (no_access k a x t end (within_none a within) way)
  reach (suc fuel) zero w g a x t end at board by in_round legal within way = absurd (let e = way.0 in cc)
  reach (suc fuel) (suc k) w g a x t end at board by in_round legal within way =
      reach_by fuel w g a x t end at board by in_round legal
      (λ v b j at' words closed within' way'. reach fuel j v g b x t end at'
      (let A : List ℕ → Type 0 = λ ws. IsBoard ws in subst A (sym words) board) by
      (let A : List (List Letter) → Type 0 = λ c. x.round ≡ suc (length c) in subst A (sym closed) in_round)
      (let A : List ℕ → Type 0 = λ ws. x.reply ≡ reply ws x.request in subst A (sym words) legal) within' way')
      (turn a) refl (turn_left fuel a within) k way
