-- After the accesses of a round's piece of the ledger nobody makes a further one.
use Rattle.std.proofs.Common.{◌≡◌, ◌≢◌, ℕ, zero, suc, List, [], ◌∷◌, ◌++◌, length, map, true, false, refl, sym, ap, subst, ◌∙◌, ⊎_elim, Option, Some, None, append_assoc, append-nil}
use Rattle.std.specs.Prelude.{slice_get, ◌==◌}
use Rattle.std.proofs.lemmas.Bool.{eq-eqb, ne_eqb}
use Rattle.std.proofs.lemmas.Bool.Decides.{eqb_tells}
use Rattle.semantics.specs.declared.request.Request.{Request}
use Rattle.board.specs.Board.{IsBoard, Access, words_after, IsLegal}
use Rattle.world.specs.declared.event.Event.{Event}
use Rattle.world.specs.declared.event.Event.TheVariants.{Tick, Post, Close}
use Rattle.round.specs.Scenario.{Scenario}
use Rattle.round.specs.Letters.{Letter}
use Rattle.round.specs.Activation.{Activation, Turn, Goes, Asks, Ended, turn, has_ended}
use Rattle.world.specs.Part.{Progress, Acting, Silent, Posted}
use Rattle.world.specs.Kind.{Kind, World, accesses_of, served, ticked, posting, happen, run}
use Rattle.round.specs.Runs.{Onward, Runs}
use Rattle.world.specs.KindLists.{ticks_named, names_events, IsMove, AreMoves}
use Rattle.world.proofs.Moves.{moves_same, moves_board, move_board, moves_keep, move_keeps, run-append, AllParts, IsLasting}
use Rattle.round.proofs.Going.{over_ended}
use Rattle.world.proofs.Due.{Due, due_lasts}
use Rattle.world.proofs.Complete.{due_within}
use Rattle.world.proofs.Lasting.{named_moves}
use Rattle.world.proofs.Replays.{Comes, reach}

-- States that each entry is of this round.
abbrev pub AreOf : ℕ → List Access → Type 0
AreOf r [] = Unit {0}
AreOf r (x ∷ piece) = (x.round ≡ r) × AreOf r piece

-- States that each general named is a traitor with an activation.
abbrev pub Act : List Progress → List Access → Type 0
Act parts [] = Unit {0}
Act parts (x ∷ piece) = ((a : Activation) × (slice_get parts x.general ≡ Some (Acting a))) × Act parts piece

act_moved : (parts later : List Progress) (g : ℕ) (now : Activation) (piece : List Access) → slice_get later g ≡ Some (Acting now) → ((h : ℕ) → h ≢ g → slice_get later h ≡ slice_get parts h) → Act parts piece → Act later piece
act_moved parts later g now [] at others acts = tt
act_moved parts later g now (x ∷ piece) at others acts = (
  ⊎_elim (λ (q : (x.general == g ≡ true) × (x.general ≡ g)). (now, ap (slice_get later) q.1 ∙ at))
      (λ (q : (x.general == g ≡ false) × (x.general ≢ g)). (acts.0.0, others x.general q.1 ∙ acts.0.1))
      (eqb_tells x.general g),
  act_moved parts later g now piece at others acts.1,
)

pub of_first : (g : ℕ) (x : Access) (piece : List Access) → x.general ≡ g → accesses_of g (x ∷ piece) ≡ x ∷ accesses_of g piece
of_first g x piece e = rw (eq-eqb x.general g e) refl

pub of_next : (g : ℕ) (x : Access) (piece : List Access) → x.general ≢ g → accesses_of g (x ∷ piece) ≡ accesses_of g piece
of_next g x piece ne = rw (ne_eqb x.general g ne) refl

module _ (K : Kind) where
  module _ (E : ℕ → Activation → Type 0) where
    -- States that the activation, with its general's accesses in the piece, comes to an end with the property `E`.
    pub record Way (piece : List Access) (h : ℕ) (a : Activation) : Type 0 where
      pub k : ℕ
      pub end : Activation
      pub runs : Runs k a (accesses_of h piece) end
      pub over : has_ended end ≡ true
      pub is : E h end

    abbrev pub Ways : List Access → ℕ → Progress → Type 0
    Ways piece h (Acting a) = Way piece h a
    Ways piece h Silent = Unit {0}
    Ways piece h Posted = Unit {0}

    way_other : (x : Access) (piece : List Access) (h : ℕ) (part : Progress) → x.general ≢ h → Ways (x ∷ piece) h part → Ways piece h part
    way_other x piece h (Acting a) ne w = record { k = w.k; end = w.end; runs = (let A : List Access → Type 0 = λ t. Runs w.k a t w.end in subst A (of_next h x piece ne) w.runs); over = w.over; is = w.is }
    way_other x piece h Silent ne w = tt
    way_other x piece h Posted ne w = tt

    pub record Followed (w : World) (piece : List Access) (v : World) : Type 0 where
      pub ledger : v.ledger ≡ w.ledger ++ piece
      pub words : v.words ≡ words_after w.words piece
      pub ways : AllParts (Ways []) v.parts

    -- The named generals make the accesses of the piece.
    pub follow : (s : Scenario) (piece : List Access) (w : World) → IsBoard w.words → AllParts (Due s) w.parts → IsLegal w.words piece → AreOf (suc (length w.closed)) piece → Act w.parts piece
        → AllParts (Ways piece) w.parts → Followed w piece (run K w (names_events K w (map (λ a. a.general) piece)))
    follow s [] w board due legal in_round acts ways = record { ledger = sym (append-nil w.ledger); words = refl; ways = ways }
    follow s (x ∷ piece) w board due legal in_round acts ways =
        let g = x.general in
        let a = acts.0.0 in
        let at = acts.0.1 in
        let way = ways g (Acting a) at in
        let d = due g (Acting a) at in
        let runs : Runs way.k a (x ∷ accesses_of g piece) way.end = (let A : List Access → Type 0 = λ t. Runs way.k a t way.end in subst A (of_first g x piece refl) way.runs) in
        let ticks = ticks_named g (slice_get w.parts g) in
        let c : Comes w (run K w ticks) g x (accesses_of g piece) way.end =
        (let A : Option Progress → Type 0 = λ o. Comes w (run K w (ticks_named g o)) g x (accesses_of g piece) way.end in
        subst A (sym at) (reach K (length a.program) way.k w g a x (accesses_of g piece) way.end at board refl in_round.0 legal.0 (due_within s g a.program a d.program d) runs)) in
        let v = run K w ticks in
        let moves = named_moves g (slice_get w.parts g) in
        let same = moves_same K ticks w moves in
        let ways' : AllParts (Ways piece) v.parts = (λ h part e. ⊎_elim
        (λ (q : (h == g ≡ true) × (h ≡ g)).
        let now : Some (Acting c.now) ≡ Some part = sym c.at ∙ (ap (slice_get v.parts) (sym q.1) ∙ e) in
        let part_is : Acting c.now ≡ part = cc in
        let A : ℕ → Progress → Type 0 = λ j p. Ways piece j p in
        subst (λ (j : ℕ). A j part) (sym q.1) (subst (λ (p : Progress). A g p) part_is (record { k = c.k; end = way.end; runs = c.way; over = way.over; is = way.is })))
        (λ (q : (h == g ≡ false) × (h ≢ g)). way_other x piece h part (λ s'. q.1 (sym s')) (ways h part (sym (c.others h q.1) ∙ e)))
        (eqb_tells h g)) in
        let r = follow s piece v (moves_board K ticks w moves board) (moves_keep K (Due s) (due_lasts s) ticks w moves board due)
        (let A : List ℕ → Type 0 = λ ws. IsLegal ws piece in subst A (sym c.words) legal.1)
        (let A : List (List Letter) → Type 0 = λ ls. AreOf (suc (length ls)) piece in subst A (sym same.closed) in_round.1)
        (act_moved w.parts v.parts g c.now piece c.at c.others acts.1) ways' in
        let there : run K w (ticks ++ names_events K v (map (λ b. b.general) piece)) ≡ run K v (names_events K v (map (λ b. b.general) piece)) = run-append K ticks (names_events K v (map (λ b. b.general) piece)) w in
        let V = run K v (names_events K v (map (λ b. b.general) piece)) in
        let here : Followed w (x ∷ piece) V = record {
          ledger = r.ledger ∙ (ap (λ l. l ++ piece) c.ledger ∙ append_assoc w.ledger (x ∷ []) piece);
          words = r.words ∙ ap (λ ws. words_after ws piece) c.words;
          ways = r.ways;
        } in
        (let A : World → Type 0 = λ u. Followed w (x ∷ piece) u in subst A (sym there) here)

    -- An activation that ends without a further access goes on without one.
    no_goes : (k : ℕ) (a b end : Activation) → has_ended end ≡ true → turn a ≡ Goes b → Runs k a [] end → (j : ℕ) × Runs j b [] end
    no_goes zero a b end over e h = absurd (let f : Goes b ≡ Ended = sym e ∙ (ap turn h.1 ∙ over_ended end over) in cc)
    no_goes (suc k) a b end over e h = (k, (let A : Turn → Type 0 = λ o. Onward (Runs k) o [] end in subst A e h))

    no_asks : (k : ℕ) (a end : Activation) (q : Request) (f : List ℕ → Activation) → has_ended end ≡ true → turn a ≡ Asks q f → Runs k a [] end → ⊥
    no_asks zero a end q f over e h = (let g : Asks q f ≡ Ended = sym e ∙ (ap turn h.1 ∙ over_ended end over) in cc)
    no_asks (suc k) a end q f over e h = (let A : Turn → Type 0 = λ o. Onward (Runs k) o [] end in subst A e h)

    way_goes : (g : ℕ) (a b : Activation) → Way [] g a → turn a ≡ Goes b → Way [] g b
    way_goes g a b w e = (let r = no_goes w.k a b w.end w.over e w.runs in record { k = r.0; end = w.end; runs = r.1; over = w.over; is = w.is })

    pub ways_last : IsLasting (Ways [])
    ways_last = record {
      goes = way_goes;
      asks = λ g a q f r w e fit. absurd (no_asks w.k a w.end q f w.over e w.runs);
      posts = λ g h. tt;
    }

    -- So ticks and posts leave the ledger and the board's words unchanged.
    abbrev Still : World → World → Type 0
    Still w v = (v.ledger ≡ w.ledger) × (v.words ≡ w.words)

    served_still : (w : World) (g : ℕ) (a : Activation) → Way [] g a → (o : Turn) → turn a ≡ o → Still w (served w g o)
    served_still w g a way (Goes b) e = (refl, refl)
    served_still w g a way (Asks q f) e = absurd (no_asks way.k a way.end q f way.over e way.runs)
    served_still w g a way Ended e = (refl, refl)

    ticked_still : (w : World) (g : ℕ) → AllParts (Ways []) w.parts → (o : Option Progress) → slice_get w.parts g ≡ o → Still w (ticked w g o)
    ticked_still w g ways None e = (refl, refl)
    ticked_still w g ways (Some (Acting a)) e = served_still w g a (ways g (Acting a) e) (turn a) refl
    ticked_still w g ways (Some Silent) e = (refl, refl)
    ticked_still w g ways (Some Posted) e = (refl, refl)

    posting_still : (w : World) (g : ℕ) (o : Option Progress) → Still w (posting w g o)
    posting_still w g None = (refl, refl)
    posting_still w g (Some (Acting a)) = (refl, refl)
    posting_still w g (Some Silent) = (refl, refl)
    posting_still w g (Some Posted) = (refl, refl)

    move_still : (w : World) (e : Event) → IsMove e → AllParts (Ways []) w.parts → Still w (happen K w e)
    move_still w (Tick g) i ways = ticked_still w g ways (slice_get w.parts g) refl
    move_still w (Post g) i ways = posting_still w g (slice_get w.parts g)
    move_still w Close i ways = absurd i

    pub moves_still : (es : List Event) (w : World) → AreMoves es → IsBoard w.words → AllParts (Ways []) w.parts → (run K w es).ledger ≡ w.ledger × ((run K w es).words ≡ w.words)
    moves_still [] w i board ways = (refl, refl)
    moves_still (e ∷ es) w i board ways =
        let one = move_still w e i.0 ways in
        let more = moves_still es (happen K w e) i.1 (move_board K w e i.0 board) (move_keeps K (Ways []) ways_last w e i.0 board ways) in
        (more.0 ∙ one.0, more.1 ∙ one.1)

    -- An activation that has ended is at that end.
    pub way_ended : (g : ℕ) (a : Activation) → has_ended a ≡ true → Way [] g a → E g a
    way_ended g a over w = by w.k w.runs
      where
        by : (k : ℕ) → Runs k a [] w.end → E g a
        by zero h = (let A : Activation → Type 0 = λ b. E g b in subst A (sym h.1) w.is)
        by (suc k) h = absurd (let A : Turn → Type 0 = λ o. Onward (Runs k) o [] w.end in subst A (over_ended a over) h)
