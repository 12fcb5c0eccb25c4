-- What ticks and posts do not change.
use Rattle.std.proofs.Common.{◌≡◌, ◌≢◌, ℕ, zero, suc, List, [], ◌∷◌, ◌++◌, length, true, refl, sym, ap, subst, ◌∙◌, ◌⊎◌, inl, inr, ⊎_elim, Option, Some, None, arith}
use Rattle.std.specs.Prelude.{slice_get, slice_set}
use Rattle.world.specs.KindLists.{IsMove, AreMoves}
use Rattle.std.proofs.lemmas.List.{length-set}
use Rattle.semantics.specs.declared.request.Request.{Request}
use Rattle.semantics.specs.Call.{fits}
use Rattle.board.specs.Board.{IsBoard, reply}
use Rattle.board.proofs.Serving.{reply_fits, next_board}
use Rattle.world.specs.declared.event.Event.{Event}
use Rattle.world.specs.declared.event.Event.TheVariants.{Tick, Post, Close}
use Rattle.round.specs.Activation.{Activation, Turn, Goes, Asks, Ended, turn}
use Rattle.world.specs.Part.{Progress, Acting, Silent, Posted}
use Rattle.world.specs.Kind.{Kind, World, ticked, served, posting, happen, run}
use Rattle.round.proofs.Going.{turn_within}

pub set-cases : {A : Type 0} (xs : List A) (i j : ℕ) (v x : A) → slice_get (slice_set xs i v) j ≡ Some x → ((j ≡ i) × (x ≡ v)) ⊎ ((j ≢ i) × (slice_get xs j ≡ Some x))
set-cases [] i j v x e = absurd (let f : None ≡ Some x = e in cc)
set-cases (y ∷ ys) zero zero v x e = inl (refl, (let f : Some v ≡ Some x = e in cc))
set-cases (y ∷ ys) zero (suc j) v x e = inr ((λ h. omega arith), e)
set-cases (y ∷ ys) (suc i) zero v x e = inr ((λ h. omega arith), e)
set-cases (y ∷ ys) (suc i) (suc j) v x e = ⊎_elim (λ (h : (j ≡ i) × (x ≡ v)). inl (ap suc h.0, h.1)) (λ (h : (j ≢ i) × (slice_get ys j ≡ Some x)). inr ((λ s. h.0 (let r = s in omega arith)), h.1)) (set-cases ys i j v x e)

pub moves-append : (es fs : List Event) → AreMoves es → AreMoves fs → AreMoves (es ++ fs)
moves-append [] fs a b = b
moves-append (e ∷ es) fs a b = (a.0, moves-append es fs a.1 b)

-- States what stays the same during a round.
pub record SameRound (w v : World) : Type 0 where
  pub scenario : v.scenario ≡ w.scenario
  pub closed : v.closed ≡ w.closed
  pub opened : v.opened ≡ w.opened
  pub full : v.full ≡ w.full
  pub count : length v.parts ≡ length w.parts

pub same_round : (w : World) → SameRound w w
same_round w = record { scenario = refl; closed = refl; opened = refl; full = refl; count = refl }

pub then_same : (u v w : World) → SameRound u v → SameRound v w → SameRound u w
then_same u v w a b = record { scenario = b.scenario ∙ a.scenario; closed = b.closed ∙ a.closed; opened = b.opened ∙ a.opened; full = b.full ∙ a.full; count = b.count ∙ a.count }

served_same : (w : World) (g : ℕ) (o : Turn) → SameRound w (served w g o)
served_same w g (Goes a) = record { scenario = refl; closed = refl; opened = refl; full = refl; count = length-set w.parts g (Acting a) }
served_same w g (Asks q f) = record { scenario = refl; closed = refl; opened = refl; full = refl; count = length-set w.parts g _ }
served_same w g Ended = same_round w

ticked_same : (w : World) (g : ℕ) (o : Option Progress) → SameRound w (ticked w g o)
ticked_same w g None = same_round w
ticked_same w g (Some (Acting a)) = served_same w g (turn a)
ticked_same w g (Some Silent) = same_round w
ticked_same w g (Some Posted) = same_round w

posting_same : (w : World) (g : ℕ) (o : Option Progress) → SameRound w (posting w g o)
posting_same w g None = same_round w
posting_same w g (Some (Acting a)) = same_round w
posting_same w g (Some Silent) = record { scenario = refl; closed = refl; opened = refl; full = refl; count = length-set w.parts g Posted }
posting_same w g (Some Posted) = same_round w

served_board : (w : World) (g : ℕ) (a : Activation) (o : Turn) → turn a ≡ o → IsBoard w.words → IsBoard (served w g o).words
served_board w g a (Goes b) e board = board
served_board w g a (Asks q f) e board = next_board w.words q board (turn_within a q f e)
served_board w g a Ended e board = board

ticked_board : (w : World) (g : ℕ) (o : Option Progress) → IsBoard w.words → IsBoard (ticked w g o).words
ticked_board w g None board = board
ticked_board w g (Some (Acting a)) board = served_board w g a (turn a) refl board
ticked_board w g (Some Silent) board = board
ticked_board w g (Some Posted) board = board

posting_board : (w : World) (g : ℕ) (o : Option Progress) → IsBoard w.words → IsBoard (posting w g o).words
posting_board w g None board = board
posting_board w g (Some (Acting a)) board = board
posting_board w g (Some Silent) board = board
posting_board w g (Some Posted) board = board

-- States that each general's part has the property.
abbrev pub AllParts : (ℕ → Progress → Type 0) → List Progress → Type 0
AllParts Q parts = (g : ℕ) (part : Progress) → slice_get parts g ≡ Some part → Q g part

-- A property that steps and posts keep.
pub record IsLasting (Q : ℕ → Progress → Type 0) : Type 0 where
  pub goes : (g : ℕ) (a b : Activation) → Q g (Acting a) → turn a ≡ Goes b → Q g (Acting b)
  pub asks : (g : ℕ) (a : Activation) (q : Request) (f : List ℕ → Activation) (r : List ℕ) → Q g (Acting a) → turn a ≡ Asks q f → fits q r ≡ true → Q g (Acting (f r))
  pub posts : (g : ℕ) → Q g Silent → Q g Posted

module _ (K : Kind) where
  pub move_same : (w : World) (e : Event) → IsMove e → SameRound w (happen K w e)
  move_same w (Tick g) i = ticked_same w g (slice_get w.parts g)
  move_same w (Post g) i = posting_same w g (slice_get w.parts g)
  move_same w Close i = absurd i

  pub moves_same : (es : List Event) (w : World) → AreMoves es → SameRound w (run K w es)
  moves_same [] w i = same_round w
  moves_same (e ∷ es) w i = then_same w (happen K w e) (run K (happen K w e) es) (move_same w e i.0) (moves_same es (happen K w e) i.1)

  pub run-append : (es fs : List Event) (w : World) → run K w (es ++ fs) ≡ run K (run K w es) fs
  run-append [] fs w = refl
  run-append (e ∷ es) fs w = run-append es fs (happen K w e)

  -- The board still has 64 words.
  pub move_board : (w : World) (e : Event) → IsMove e → IsBoard w.words → IsBoard (happen K w e).words
  move_board w (Tick g) i board = ticked_board w g (slice_get w.parts g) board
  move_board w (Post g) i board = posting_board w g (slice_get w.parts g) board
  move_board w Close i board = absurd i

  pub moves_board : (es : List Event) (w : World) → AreMoves es → IsBoard w.words → IsBoard (run K w es).words
  moves_board [] w i board = board
  moves_board (e ∷ es) w i board = moves_board es (happen K w e) i.1 (move_board w e i.0 board)

  module _ (Q : ℕ → Progress → Type 0) (kept : IsLasting Q) where
    parts-set : (parts : List Progress) (g : ℕ) (v : Progress) → AllParts Q parts → Q g v → AllParts Q (slice_set parts g v)
    parts-set parts g v all new j part e =
        ⊎_elim (λ (h : (j ≡ g) × (part ≡ v)). (let A : ℕ → Type 0 = λ i. Q i part in let B : Progress → Type 0 = λ p. Q g p in subst A (sym h.0) (subst B (sym h.1) new)))
        (λ (h : (j ≢ g) × (slice_get parts j ≡ Some part)). all j part h.1)
        (set-cases parts g j v part e)

    served_keeps : (w : World) (g : ℕ) (a : Activation) → slice_get w.parts g ≡ Some (Acting a) → IsBoard w.words → AllParts Q w.parts → (o : Turn) → turn a ≡ o → AllParts Q (served w g o).parts
    served_keeps w g a at board all (Goes b) e = parts-set w.parts g (Acting b) all (kept.goes g a b (all g (Acting a) at) e)
    served_keeps w g a at board all (Asks q f) e =
        parts-set w.parts g (Acting (f (reply w.words q))) all (kept.asks g a q f (reply w.words q) (all g (Acting a) at) e (reply_fits w.words q board (turn_within a q f e)))
    served_keeps w g a at board all Ended e = all

    ticked_keeps : (w : World) (g : ℕ) → IsBoard w.words → AllParts Q w.parts → (o : Option Progress) → slice_get w.parts g ≡ o → AllParts Q (ticked w g o).parts
    ticked_keeps w g board all None e = all
    ticked_keeps w g board all (Some (Acting a)) e = served_keeps w g a e board all (turn a) refl
    ticked_keeps w g board all (Some Silent) e = all
    ticked_keeps w g board all (Some Posted) e = all

    posting_keeps : (w : World) (g : ℕ) → AllParts Q w.parts → (o : Option Progress) → slice_get w.parts g ≡ o → AllParts Q (posting w g o).parts
    posting_keeps w g all None e = all
    posting_keeps w g all (Some (Acting a)) e = all
    posting_keeps w g all (Some Silent) e = parts-set w.parts g Posted all (kept.posts g (all g Silent e))
    posting_keeps w g all (Some Posted) e = all

    pub move_keeps : (w : World) (e : Event) → IsMove e → IsBoard w.words → AllParts Q w.parts → AllParts Q (happen K w e).parts
    move_keeps w (Tick g) i board all = ticked_keeps w g board all (slice_get w.parts g) refl
    move_keeps w (Post g) i board all = posting_keeps w g all (slice_get w.parts g) refl
    move_keeps w Close i board all = absurd i

    pub moves_keep : (es : List Event) (w : World) → AreMoves es → IsBoard w.words → AllParts Q w.parts → AllParts Q (run K w es).parts
    moves_keep [] w i board all = all
    moves_keep (e ∷ es) w i board all = moves_keep es (happen K w e) i.1 (move_board w e i.0 board) (move_keeps w e i.0 board all)
