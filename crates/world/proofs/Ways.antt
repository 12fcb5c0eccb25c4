-- What the moves of a round do not change, and that the ledger determines the world at the end of a round.
use Rattle.std.proofs.Common.{◌≡◌, ◌≢◌, ℕ, suc, List, [], ◌∷◌, ◌++◌, length, refl, sym, ap, subst, ◌∙◌, ⊎_elim, Option, Some, None, append_assoc, append-nil, arith}
use Rattle.std.specs.Prelude.{slice_get}
use Rattle.insn.specs.declared.insn.Insn.{Insn}
use Rattle.semantics.specs.declared.request.Request.{Request}
use Rattle.board.specs.Board.{Access, reply, next, words_after, IsLegal}
use Rattle.board.proofs.Histories.{words_after-snoc, IsLegal-snoc}
use Rattle.world.specs.declared.event.Event.{Event}
use Rattle.world.specs.declared.event.Event.TheVariants.{Tick, Post, Close}
use Rattle.round.specs.Scenario.{program_of}
use Rattle.round.specs.Activation.{Activation, Turn, Goes, Asks, Ended, turn}
use Rattle.world.specs.Part.{Progress, Acting, Silent, Posted}
use Rattle.world.specs.Kind.{Kind, World, accesses_of, served, ticked, posting, happen, run}
use Rattle.round.specs.Runs.{Onward, Runs}
use Rattle.world.specs.KindLists.{OwesNoLetter, HasEnded, IsMove, AreMoves}
use Rattle.world.proofs.Kept.{Fits}
use Rattle.world.proofs.Moves.{set-cases, SameRound}
use Rattle.round.proofs.Going.{over_ended}
use Rattle.round.proofs.Runnings.{StopsAt, Runs-snoc, Runs-same}
use Rattle.world.proofs.Accesses.{of_mine, of_other}

-- Returns the access with this general, round, request and reply.
abbrev pub access : ℕ → ℕ → Request → List ℕ → Access
access g r q answer = record { general = g; round = r; request = q; reply = answer }

module _ (K : Kind) where
  module _ (first : World) where
    -- States that the activation of general `g` is reached from its beginning with his accesses in the piece.
    abbrev pub Came : List Access → ℕ → Activation → Type 0
    Came piece g a = (k : ℕ) × (b : Activation) × (slice_get first.parts g ≡ Some (Acting b)) × Runs k b (accesses_of g piece) a

    pub record Midst (w : World) : Type 0 where
      pub piece : List Access
      pub ledger : w.ledger ≡ first.ledger ++ piece
      pub words_are : w.words ≡ words_after first.words piece
      pub legal : IsLegal first.words piece
      pub ways : (g : ℕ) (a : Activation) → slice_get w.parts g ≡ Some (Acting a) → Came piece g a

    pub midst_first : Midst first
    midst_first = record { piece = []; ledger = sym (append-nil first.ledger); words_are = refl; legal = tt; ways = λ g a e. (0, a, e, (refl, refl)) }

    further : (piece : List Access) (g : ℕ) (a b : Activation) (more : List Access) → Came piece g a → Onward (StopsAt) (turn a) more b → (piece' : List Access) → accesses_of g piece' ≡ accesses_of g piece ++ more → Came piece' g b
    further piece g a b more c last piece' e =
        (suc c.0, c.1, c.2, (let A : List Access → Type 0 = λ t. Runs (suc c.0) c.1 t b in subst A (sym e) (Runs-snoc c.0 c.1 (accesses_of g piece) more a b c.3 last)))

    one : (g : ℕ) (w : World) (a : Activation) → slice_get w.parts g ≡ Some (Acting a) → Midst w → (o : Turn) → turn a ≡ o → Midst (served w g o)
    one g w a at d (Goes b) e = record {
      piece = d.piece;
      ledger = d.ledger;
      words_are = d.words_are;
      legal = d.legal;
      ways = λ h x is. ⊎_elim
          (λ (q : (h ≡ g) × (Acting x ≡ Acting b)).
          let r : b ≡ x = (let t = q.1 in cc) in
          let A : ℕ → Activation → Type 0 = λ j y. Came d.piece j y in
          subst (λ (j : ℕ). A j x) (sym q.0) (subst (λ (y : Activation). A g y) r
          (further d.piece g a b [] (d.ways g a at) (let B : Turn → Type 0 = λ v. Onward (StopsAt) v [] b in subst B (sym e) (refl, refl)) d.piece (sym (append-nil (accesses_of g d.piece))))))
          (λ (q : (h ≢ g) × (slice_get w.parts h ≡ Some (Acting x))). d.ways h x q.1)
          (set-cases w.parts g h (Acting b) (Acting x) is);
    }
    one g w a at d (Asks q f) e =
        let x' = access g (suc (length w.closed)) q (reply w.words q) in
        let b = f (reply w.words q) in
        record {
          piece = d.piece ++ x' ∷ [];
          ledger = ap (λ l. l ++ x' ∷ []) d.ledger ∙ append_assoc first.ledger d.piece (x' ∷ []);
          words_are = ap (λ v. next v q) d.words_are ∙ sym (words_after-snoc first.words d.piece x');
          legal = IsLegal-snoc first.words d.piece x' d.legal (ap (λ v. reply v q) d.words_are);
          ways = λ h x is. ⊎_elim
              (λ (t : (h ≡ g) × (Acting x ≡ Acting b)).
              let r : b ≡ x = (let u = t.1 in cc) in
              let A : ℕ → Activation → Type 0 = λ j y. Came (d.piece ++ x' ∷ []) j y in
              subst (λ (j : ℕ). A j x) (sym t.0) (subst (λ (y : Activation). A g y) r
              (further d.piece g a b (x' ∷ []) (d.ways g a at) (let B : Turn → Type 0 = λ v. Onward (StopsAt) v (x' ∷ []) b in subst B (sym e) (refl, (refl, refl))) (d.piece ++ x' ∷ []) (of_mine g d.piece x' refl))))
              (λ (t : (h ≢ g) × (slice_get w.parts h ≡ Some (Acting x))).
              let c = d.ways h x t.1 in
              (c.0, c.1, c.2, (let A : List Access → Type 0 = λ l. Runs c.0 c.1 l x in subst A (sym (of_other h d.piece x' (λ s. t.0 (sym s)))) c.3)))
              (set-cases w.parts g h (Acting b) (Acting x) is);
        }
    one g w a at d Ended e = d

    tick_midst : (w : World) (g : ℕ) → Midst w → (o : Option Progress) → slice_get w.parts g ≡ o → Midst (ticked w g o)
    tick_midst w g d None e = d
    tick_midst w g d (Some (Acting a)) e = one g w a e d (turn a) refl
    tick_midst w g d (Some Silent) e = d
    tick_midst w g d (Some Posted) e = d

    not_acting : (a : Activation) → Posted ≡ Acting a → ⊥
    not_acting a e = cc

    post_midst : (w : World) (g : ℕ) → Midst w → (o : Option Progress) → slice_get w.parts g ≡ o → Midst (posting w g o)
    post_midst w g d None e = d
    post_midst w g d (Some (Acting a)) e = d
    post_midst w g d (Some Silent) e = record {
      piece = d.piece;
      ledger = d.ledger;
      words_are = d.words_are;
      legal = d.legal;
      ways = λ h x is. ⊎_elim
          (λ (q : (h ≡ g) × (Acting x ≡ Posted)). absurd (not_acting x (sym q.1)))
          (λ (q : (h ≢ g) × (slice_get w.parts h ≡ Some (Acting x))). d.ways h x q.1)
          (set-cases w.parts g h Posted (Acting x) is);
    }
    post_midst w g d (Some Posted) e = d

    pub move_midst : (w : World) (e : Event) → IsMove e → Midst w → Midst (happen K w e)
    move_midst w (Tick g) i d = tick_midst w g d (slice_get w.parts g) refl
    move_midst w (Post g) i d = post_midst w g d (slice_get w.parts g) refl
    move_midst w Close i d = absurd i

    pub moves_midst : (es : List Event) (w : World) → AreMoves es → Midst w → Midst (run K w es)
    moves_midst [] w i d = d
    moves_midst (e ∷ es) w i d = moves_midst es (happen K w e) i.1 (move_midst w e i.0 d)

    same_front : {A : Type 0} (xs ys zs : List A) → xs ++ ys ≡ xs ++ zs → ys ≡ zs
    same_front [] ys zs e = e
    same_front (x ∷ xs) ys zs e = same_front xs ys zs (let f : x ∷ (xs ++ ys) ≡ x ∷ (xs ++ zs) = e in cc)

    -- Lists of the same length with the same elements are the same.
    same_list : {A : Type 0} (xs ys : List A) → length xs ≡ length ys → ((i : ℕ) (x y : A) → slice_get xs i ≡ Some x → slice_get ys i ≡ Some y → x ≡ y) → xs ≡ ys
    same_list [] [] e h = refl
    same_list [] (y ∷ ys) e h = absurd (omega arith)
    same_list (x ∷ xs) [] e h = absurd (omega arith)
    same_list (x ∷ xs) (y ∷ ys) e h = λ i. h 0 x y refl refl i ∷ same_list xs ys (omega arith) (λ j a b. h (suc j) a b) i

    came_same : (piece : List Access) (g : ℕ) (a b : Activation) → Came piece g a → Came piece g b → turn a ≡ Ended → turn b ≡ Ended → a ≡ b
    came_same piece g a b c d e f =
        let same : c.1 ≡ d.1 = (let h = sym c.2 ∙ d.2 in cc) in
        Runs-same c.0 d.0 d.1 (accesses_of g piece) a b (let A : Activation → Type 0 = λ s. Runs c.0 s (accesses_of g piece) a in subst A same c.3) d.3 e f

    part_same : (piece : List Access) (g : ℕ) (o : Option (List Insn)) (x y : Progress) → Fits o x → Fits o y → OwesNoLetter x → OwesNoLetter y → HasEnded x → HasEnded y
        → ((a : Activation) → x ≡ Acting a → Came piece g a) → ((a : Activation) → y ≡ Acting a → Came piece g a) → x ≡ y
    part_same piece g None (Acting a) y f f' p p' e e' c c' = absurd f
    part_same piece g None Silent y f f' p p' e e' c c' = cc
    part_same piece g None Posted (Acting b) f f' p p' e e' c c' = absurd f'
    part_same piece g None Posted Silent f f' p p' e e' c c' = cc
    part_same piece g None Posted Posted f f' p p' e e' c c' = refl
    part_same piece g (Some q) (Acting a) (Acting b) f f' p p' e e' c c' = ap Acting (came_same piece g a b (c a refl) (c' b refl) (over_ended a e) (over_ended b e'))
    part_same piece g (Some q) (Acting a) Silent f f' p p' e e' c c' = absurd f'
    part_same piece g (Some q) (Acting a) Posted f f' p p' e e' c c' = absurd f'
    part_same piece g (Some q) Silent y f f' p p' e e' c c' = absurd f
    part_same piece g (Some q) Posted y f f' p p' e e' c c' = absurd f

    pub record IsReady (w : World) : Type 0 where
      pub fits : (g : ℕ) (part : Progress) → slice_get w.parts g ≡ Some part → Fits (program_of first.scenario g) part
      pub posted_all : (g : ℕ) (part : Progress) → slice_get w.parts g ≡ Some part → OwesNoLetter part
      pub ended_all : (g : ℕ) (part : Progress) → slice_get w.parts g ≡ Some part → HasEnded part

    -- Two ends of a round with the same beginning and the same ledger are the same world.
    pub same_end : (v w : World) → SameRound first v → SameRound first w → Midst v → Midst w → IsReady v → IsReady w → v.ledger ≡ w.ledger → v ≡ w
    same_end v w sv sw dv dw rv rw' e =
        let piece : dv.piece ≡ dw.piece = same_front first.ledger dv.piece dw.piece (sym dv.ledger ∙ e ∙ dw.ledger) in
        let parts : v.parts ≡ w.parts = same_list v.parts w.parts (sv.count ∙ sym sw.count) (λ g x y a b.
        part_same dw.piece g (program_of first.scenario g) x y (rv.fits g x a) (rw'.fits g y b) (rv.posted_all g x a) (rw'.posted_all g y b) (rv.ended_all g x a) (rw'.ended_all g y b)
        (λ s h. (let A : List Access → Type 0 = λ p. Came p g s in subst A piece (dv.ways g s (a ∙ ap Some h))))
        (λ s h. dw.ways g s (b ∙ ap Some h))) in
        λ i. record {
          scenario = (sv.scenario ∙ sym sw.scenario) i;
          closed = (sv.closed ∙ sym sw.closed) i;
          words = (dv.words_are ∙ ap (words_after first.words) piece ∙ sym dw.words_are) i;
          ledger = e i;
          opened = (sv.opened ∙ sym sw.opened) i;
          parts = parts i;
          full = (sv.full ∙ sym sw.full) i;
        }
