-- The events of schedules and replays are punctual and complete.
use Rattle.std.proofs.Common.{◌≡◌, ◌≢◌, ℕ, zero, suc, ◌<◌, ◌≤◌, List, [], ◌∷◌, ◌++◌, length, true, false, refl, sym, ap, subst, ◌∙◌, ⊎_elim, Option, Some, None, arith}
use Rattle.std.specs.Prelude.{slice_get, slice_set, ◌==◌, replicate}
use Rattle.std.proofs.lemmas.Option.{slice_get_within}
use Rattle.std.proofs.lemmas.Bool.Decides.{eqb_tells}
use Rattle.insn.specs.declared.insn.Insn.{Insn}
use Rattle.semantics.specs.Call.{fits}
use Rattle.board.specs.Board.{IsBoard, reply}
use Rattle.board.proofs.Serving.{reply_fits, next_board}
use Rattle.world.specs.declared.event.Event.{Event}
use Rattle.world.specs.declared.event.Event.TheVariants.{Tick, Post, Close}
use Rattle.round.specs.Scenario.{Scenario, program_of}
use Rattle.round.specs.Activation.{Activation, Turn, Goes, Asks, Ended, turn, has_ended}
use Rattle.world.specs.Part.{Progress, Acting, Silent, Posted, owes_no_letter}
use Rattle.world.specs.Kind.{Kind, World, happen, run, each, ticked, served, posting}
use Rattle.world.specs.KindLists.{Throughout, AtClose, OwesNoLetter, HasEnded, post_of, ticks_of, IsMove, AreMoves, IsRipe}
use Rattle.world.proofs.Kept.{Fits, IsKept}
use Rattle.world.proofs.Listing.{set-here}
use Rattle.world.proofs.Moves.{moves-append, moves_same, moves_board, run-append, AllParts, IsLasting, moves_keep}
use Rattle.round.proofs.Going.{turn_within, IsGoing, TurnsTo, turn_safe, going_zero, over_ended, ended_over}
use Rattle.world.proofs.Rounds.{run_kept}
use Rattle.world.proofs.Due.{IsDue, Due, due_lasts}

move_at : (Q : Progress → Type 0) (w : World) (e : Event) → IsMove e → AtClose Q w e
move_at Q w (Tick g) i = tt
move_at Q w (Post g) i = tt
move_at Q w Close i = absurd i

-- States that the activation ends after at most `k` turns.
unfoldable pub Within : ℕ → Activation → Type 0
Within k a = (n : ℕ) × (n ≤ k) × IsGoing n a

abbrev pub WithinAfter : ℕ → Turn → Type 0
WithinAfter k (Goes b) = Within k b
WithinAfter k (Asks q f) = (r : List ℕ) → fits q r ≡ true → Within k (f r)
WithinAfter k Ended = Unit {0}

over_within : (k : ℕ) (a : Activation) → has_ended a ≡ true → Within k a
unfolding Within
over_within k a e = (0, omega arith, λ on. absurd (let f : true ≡ false = sym e ∙ on in cc))

turns_within : (n k : ℕ) (a : Activation) (o : Turn) → n ≤ k → TurnsTo n a o → WithinAfter k o
unfolding Within
turns_within n k a (Goes b) le h = (n, le, h.going)
turns_within n k a (Asks q f) le h = λ r fit. (n, le, (h r fit).going)
turns_within n k a Ended le h = tt

pub turn_left : (k : ℕ) (a : Activation) → Within (suc k) a → WithinAfter k (turn a)
unfolding Within
turn_left k a h = by h.0 h.1 h.2
  where
    by : (n : ℕ) → n ≤ suc k → IsGoing n a → WithinAfter k (turn a)
    by zero le going = (let A : Turn → Type 0 = λ o. WithinAfter k o in subst A (sym (over_ended a (going_zero a going))) tt)
    by (suc n) le going = turns_within n k a (turn a) (omega arith) (turn_safe n a going)

ended_lasts : (n : ℕ) → IsLasting (λ g part. g < n → HasEnded part)
ended_lasts n = record {
  goes = λ g a b h e lt. absurd (let f : Goes b ≡ Ended = sym e ∙ over_ended a (h lt) in cc);
  asks = λ g a q f r h e fit lt. absurd (let f' : Asks q f ≡ Ended = sym e ∙ over_ended a (h lt) in cc);
  posts = λ g h lt. tt;
}

posted_lasts : (n : ℕ) → IsLasting (λ g part. g < n → OwesNoLetter part)
posted_lasts n = record { goes = λ g a b h e lt. refl; asks = λ g a q f r h e fit lt. refl; posts = λ g h lt. refl }

pub ticks_are_moves : (k g : ℕ) → AreMoves (replicate k (Tick g))
ticks_are_moves zero g = tt
ticks_are_moves (suc k) g = (tt, ticks_are_moves k g)

ticks_of_moves : (g : ℕ) (o : Option (List Insn)) → AreMoves (ticks_of g o)
ticks_of_moves g None = tt
ticks_of_moves g (Some p) = ticks_are_moves (length p) g

post_of_moves : (g : ℕ) (o : Option (List Insn)) → AreMoves (post_of g o)
post_of_moves g None = (tt, tt)
post_of_moves g (Some p) = tt

each_moves : (n : ℕ) (f : ℕ → List Event) → ((g : ℕ) → AreMoves (f g)) → AreMoves (each n f)
each_moves zero f h = tt
each_moves (suc n) f h = moves-append (each n f) (f n) (each_moves n f h) (h n)

pub part_within : (ps : List Progress) (g : ℕ) → g < length ps → (part : Progress) × (slice_get ps g ≡ Some part)
part_within [] g lt = absurd (omega arith)
part_within (p ∷ ps) zero lt = (p, refl)
part_within (p ∷ ps) (suc g) lt = part_within ps g (omega arith)

FitsIn : Scenario → ℕ → Progress → Type 0
FitsIn s g part = Fits (program_of s g) part

fits_lasts : (s : Scenario) → IsLasting (FitsIn s)
unfolding FitsIn
fits_lasts s = record { goes = λ g a b q e. fits_go' (program_of s g) a b q; asks = λ g a q f r h e fit. fits_go' (program_of s g) a (f r) h; posts = λ g q. fits_post' (program_of s g) q }
  where
    fits_go' : (o : Option (List Insn)) (a b : Activation) → Fits o (Acting a) → Fits o (Acting b)
    fits_go' None a b f = absurd f
    fits_go' (Some p) a b f = tt

    fits_post' : (o : Option (List Insn)) → Fits o Silent → Fits o Posted
    fits_post' None f = tt
    fits_post' (Some p) f = absurd f

-- All loyal generals post, and then all traitors run to their ends.
unfoldable pub posts : Scenario → List Event
posts s = each s.generals (λ g. post_of g (program_of s g))

unfoldable pub ends : Scenario → List Event
ends s = each s.generals (λ g. ticks_of g (program_of s g))

pub due_within : (s : Scenario) (g : ℕ) (p : List Insn) (a : Activation) → program_of s g ≡ Some p → IsDue s g a → Within (length p) a
unfolding Within
due_within s g p a is d =
    let same : a.program ≡ p = (let e = sym d.program ∙ is in cc) in
    (d.left, (let e = ap length same in let w = d.within in omega arith), d.going)

pub posts_moves : (s : Scenario) → AreMoves (posts s)
unfolding posts
posts_moves s = each_moves s.generals (λ g. post_of g (program_of s g)) (λ g. post_of_moves g (program_of s g))

pub ends_moves : (s : Scenario) → AreMoves (ends s)
unfolding ends
ends_moves s = each_moves s.generals (λ g. ticks_of g (program_of s g)) (λ g. ticks_of_moves g (program_of s g))

module _ (K : Kind) where
  pub throughout-append : (Q : World → Event → Type 0) (es fs : List Event) (w : World) → Throughout K Q w es → Throughout K Q (run K w es) fs → Throughout K Q w (es ++ fs)
  throughout-append Q [] fs w a b = b
  throughout-append Q (e ∷ es) fs w a b = (a.0, throughout-append Q es fs (happen K w e) a.1 b)

  pub moves_throughout : (Q : Progress → Type 0) (es : List Event) (w : World) → AreMoves es → Throughout K (AtClose Q) w es
  moves_throughout Q [] w i = tt
  moves_throughout Q (e ∷ es) w i = (move_at Q w e i.0, moves_throughout Q es (happen K w e) i.1)

  -- States that `k` ticks bring an activation to its end.
  Arrives : ℕ → World → ℕ → Type 0
  Arrives k v g = (b : Activation) × (slice_get (run K v (replicate k (Tick g))).parts g ≡ Some (Acting b)) × (has_ended b ≡ true)

  tick_end : (k : ℕ) (w : World) (g : ℕ) (a : Activation) → slice_get w.parts g ≡ Some (Acting a) → IsBoard w.words
      → ((v : World) (b : Activation) → slice_get v.parts g ≡ Some (Acting b) → IsBoard v.words → Within k b → Arrives k v g)
      → (o : Turn) → turn a ≡ o → WithinAfter k o → Arrives k (served w g o) g
  tick_end k w g a at board again (Goes b) e h = again (served w g (Goes b)) b (set-here w.parts g (Acting b) (Acting a) at) board h
  tick_end k w g a at board again (Asks q f) e h =
      let within = turn_within a q f e in
      again (served w g (Asks q f)) (f (reply w.words q)) (set-here w.parts g (Acting (f (reply w.words q))) (Acting a) at) (next_board w.words q board within) (h (reply w.words q) (reply_fits w.words q board within))
  tick_end k w g a at board again Ended e h = again w a at board (over_within k a (ended_over a e))

  ticks_end : (k : ℕ) (w : World) (g : ℕ) (a : Activation) → slice_get w.parts g ≡ Some (Acting a) → IsBoard w.words → Within k a → Arrives k w g
  unfolding Arrives Within
  ticks_end zero w g a at board h = (a, at, by h.0 h.1 h.2)
    where
      by : (n : ℕ) → n ≤ 0 → IsGoing n a → has_ended a ≡ true
      by zero le going = going_zero a going
      by (suc n) le going = absurd (omega arith)
  ticks_end (suc k) w g a at board h =
      let A : Option Progress → Type 0 = λ o. Arrives k (ticked w g o) g in
      subst A (sym at) (tick_end k w g a at board (λ v b. ticks_end k v g b) (turn a) refl (turn_left k a h))

  -- A property holds for all parts if each general's own events bring it about, and it then lasts.
  brought : (Q : Progress → Type 0) (s : Scenario) (f : ℕ → List Event) → ((n : ℕ) → IsLasting (λ g part. g < n → Q part)) → ((g : ℕ) → AreMoves (f g))
      → ((g : ℕ) (w : World) (part : Progress) → IsBoard w.words → Due s g part → Fits (program_of s g) part → slice_get w.parts g ≡ Some part → (part' : Progress) → slice_get (run K w (f g)).parts g ≡ Some part' → Q part')
      → (n : ℕ) (w : World) → IsBoard w.words → AllParts (Due s) w.parts → AllParts (FitsIn s) w.parts
      → AllParts (λ g part. g < n → Q part) (run K w (each n f)).parts
  unfolding FitsIn
  brought Q s f lasts moves brings zero w board due fits g part e lt = absurd (omega arith)
  brought Q s f lasts moves brings (suc n) w board due fits g part e lt =
      let first = each n f in
      let w' = run K w first in
      let before = each_moves n f moves in
      let e' : slice_get (run K w' (f n)).parts g ≡ Some part = ap (λ v. slice_get v.parts g) (sym (run-append K first (f n) w)) ∙ e in
      ⊎_elim
      (λ (x : (g == n ≡ true) × (g ≡ n)).
      let there : slice_get (run K w' (f n)).parts n ≡ Some part = (let A : ℕ → Type 0 = λ j. slice_get (run K w' (f n)).parts j ≡ Some part in subst A x.1 e') in
      let same = moves_same K (f n) w' (moves n) in
      let old = part_within w'.parts n (let l = slice_get_within (run K w' (f n)).parts n part there in let c = same.count in omega arith) in
      brings n w' old.0 (moves_board K first w before board) (moves_keep K (Due s) (due_lasts s) first w before board due n old.0 old.1) (moves_keep K (FitsIn s) (fits_lasts s) first w before board fits n old.0 old.1) old.1 part there)
      (λ (x : (g == n ≡ false) × (g ≢ n)).
      moves_keep K (λ g part. g < n → Q part) (lasts n) (f n) w' (moves n) (moves_board K first w before board) (brought Q s f lasts moves brings n w board due fits) g part e' (let ne = x.1 in omega arith))
      (eqb_tells g n)

  post_brings : (s : Scenario) (g : ℕ) (w : World) (part : Progress) → (o : Option (List Insn)) → Fits o part → slice_get w.parts g ≡ Some part → (part' : Progress) → slice_get (run K w (post_of g o)).parts g ≡ Some part' → OwesNoLetter part'
  post_brings s g w (Acting a) None fits at part' e = absurd fits
  post_brings s g w Silent None fits at part' e =
      let A : Option Progress → Type 0 = λ o. slice_get (posting w g o).parts g ≡ Some part' in
      let f : slice_get (slice_set w.parts g Posted) g ≡ Some part' = subst A at e in
      let h : Some Posted ≡ Some part' = sym (set-here w.parts g Posted Silent at) ∙ f in
      let i : Posted ≡ part' = cc in ap owes_no_letter (sym i)
  post_brings s g w Posted None fits at part' e =
      let A : Option Progress → Type 0 = λ o. slice_get (posting w g o).parts g ≡ Some part' in
      let f : slice_get w.parts g ≡ Some part' = subst A at e in
      let i : Posted ≡ part' = (let h = sym at ∙ f in cc) in ap owes_no_letter (sym i)
  post_brings s g w (Acting a) (Some p) fits at part' e = let i : Acting a ≡ part' = (let h = sym at ∙ e in cc) in ap owes_no_letter (sym i)
  post_brings s g w Silent (Some p) fits at part' e = absurd fits
  post_brings s g w Posted (Some p) fits at part' e = absurd fits

  tick_brings : (s : Scenario) (g : ℕ) (w : World) (part : Progress) → (o : Option (List Insn)) → program_of s g ≡ o → IsBoard w.words → Due s g part → Fits o part → slice_get w.parts g ≡ Some part → (part' : Progress) → slice_get (run K w (ticks_of g o)).parts g ≡ Some part' → HasEnded part'
  unfolding Arrives
  tick_brings s g w (Acting a) None is board due fits at part' e = absurd fits
  tick_brings s g w Silent None is board due fits at part' e = let i : Silent ≡ part' = (let h = sym at ∙ e in cc) in (let A : Progress → Type 0 = λ p. HasEnded p in subst A i tt)
  tick_brings s g w Posted None is board due fits at part' e = let i : Posted ≡ part' = (let h = sym at ∙ e in cc) in (let A : Progress → Type 0 = λ p. HasEnded p in subst A i tt)
  tick_brings s g w (Acting a) (Some p) is board due fits at part' e =
      let c = ticks_end (length p) w g a at board (due_within s g p a is due) in
      let i : Acting c.0 ≡ part' = (let h = sym c.1 ∙ e in cc) in (let A : Progress → Type 0 = λ p. HasEnded p in subst A i c.2)
  tick_brings s g w Silent (Some p) is board due fits at part' e = absurd fits
  tick_brings s g w Posted (Some p) is board due fits at part' e = absurd fits

  -- After all posts and ticks, every loyal general has posted and every activation has ended.
  pub ripens : (s : Scenario) (w : World) → w.scenario ≡ s → IsKept K w → AllParts (Due s) w.parts → IsRipe (run K (run K w (posts s)) (ends s))
  unfolding posts ends FitsIn
  ripens s w is k due =
      let fits : AllParts (FitsIn s) w.parts = (let A : Scenario → Type 0 = λ t. AllParts (FitsIn t) w.parts in subst A is (λ g part e. (k.parts g part e).1)) in
      let w1 = run K w (posts s) in
      let k1 = run_kept K (posts s) w k in
      let k2 = run_kept K (ends s) w1 k1 in
      let same1 = moves_same K (posts s) w (posts_moves s) in
      let same2 = moves_same K (ends s) w1 (ends_moves s) in
      let below : (g : ℕ) (part : Progress) → slice_get (run K w1 (ends s)).parts g ≡ Some part → g < s.generals = (λ g part e. (let A : Scenario → Type 0 = λ t. g < t.generals in subst A (same2.scenario ∙ same1.scenario ∙ is) (k2.parts g part e).0)) in
      let p1 = brought OwesNoLetter s (λ g. post_of g (program_of s g)) posted_lasts (λ g. post_of_moves g (program_of s g)) (λ g v part board d f at part' e. post_brings s g v part (program_of s g) f at part' e) s.generals w k.board due fits in
      let p2 = moves_keep K (λ g part. g < s.generals → OwesNoLetter part) (posted_lasts s.generals) (ends s) w1 (ends_moves s) k1.board p1 in
      let e2 = brought HasEnded s (λ g. ticks_of g (program_of s g)) ended_lasts (λ g. ticks_of_moves g (program_of s g)) (λ g v part board d f at part' e. tick_brings s g v part (program_of s g) refl board d f at part' e) s.generals w1 k1.board
      (moves_keep K (Due s) (due_lasts s) (posts s) w (posts_moves s) k.board due) (moves_keep K (FitsIn s) (fits_lasts s) (posts s) w (posts_moves s) k.board fits) in
      record { posted_all = λ g part e. p2 g part e (below g part e); ended_all = λ g part e. e2 g part e (below g part e) }
