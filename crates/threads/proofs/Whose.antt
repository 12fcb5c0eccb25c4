-- A letter that passes the code's checks and has its round's briefing is its general's letter of the round. Also, when
-- letters are those of a round.
use Rattle.std.proofs.Common.{◌≡◌, IsTrue, ℕ, zero, suc, ◌+◌, List, [], ◌∷◌, ◌++◌, length, length-append, take, drop, refl, sym, ap, subst, ◌∙◌, Bool, arith, Option, None, Some}
use Rattle.std.specs.Prelude.{◌↔◌, slice_get, sum_by}
use Rattle.insn.specs.declared.insn.Insn.{Insn}
use Rattle.board.specs.Board.{Access}
use Rattle.semantics.specs.Relay.{Relay}
use Rattle.round.specs.Scenario.{Scenario, program_of, shape_of}
use Rattle.round.specs.Letters.{Letter}
use Rattle.round.specs.Activation.{started}
use Rattle.round.specs.Runs.{Runs, IsRunOf, IsLetter}
use Rattle.round.specs.Origin.{AreLettersOf, AreRoundsOf}
use Rattle.world.specs.Kind.{Kind, accesses_of, loyal_letter}
use Rattle.world.specs.KindAccounted.{IsLetterOf, IsAccountedRound, AreAccounted}
use Rattle.threads.specs.Holding.{EndedInTime, Stands, IsBriefed}
use Rattle.round.proofs.Patience.{within_none}

module _ (K : Kind) where
  loyal_over : (s : Scenario) (before : List (List Letter)) (g : ℕ) → EndedInTime s (loyal_letter K s before g)
  loyal_over s before g = record { within = within_none s.patience; over = refl }

  -- A general's letter of the round passes the checks.
  stood : (s : Scenario) (before : List (List Letter)) (piece : List Access) (g : ℕ) (o : Option (List Insn)) (l : Letter) → o ≡ program_of s g → IsLetterOf K s before g o l → accesses_of g piece ≡ l.transcript
      → Stands s piece g (suc (length before)) l × IsBriefed K s before g l
  stood s before piece g None l is h part = (
    record {
      general = ap (λ (x : Letter). x.general) h;
      round_is = ap (λ (x : Letter). x.round) h;
      program = ap (λ (x : Letter). x.program) h ∙ is;
      over = subst (λ (x : Letter). EndedInTime s x) (sym h) (loyal_over s before g);
      part = part;
    },
    record {
      context = ap (λ (x : Letter). x.context) h;
      relay = ap (λ (x : Letter). x.outbox.relay) h;
      loyal = λ none. (ap (λ (x : Letter). x.outbox.rows) h, ap (λ (x : Letter). x.outbox.entries) h);
    },
  )
  stood s before piece g (Some p) l is h part = (
    record {
      general = ap (λ (x : Letter). x.general) h.2;
      round_is = ap (λ (x : Letter). x.round) h.2;
      program = ap (λ (x : Letter). x.program) h.2 ∙ is;
      over = record { within = h.3; over = h.4 };
      part = part;
    },
    record {
      context = ap (λ (x : Letter). x.context) h.2;
      relay = ap (λ (x : Letter). x.outbox.relay) h.2;
      loyal = λ none. absurd (let f : Some p ≡ None = is ∙ none in cc);
    },
  )

  module _ (s : Scenario) (before : List (List Letter)) (g : ℕ) (l : Letter) (kept : IsLetter l) (own : l.general ≡ g) (of_round : l.round ≡ suc (length before)) (briefed : IsBriefed K s before g l) where
    loyal : program_of s g ≡ None → l.program ≡ None → IsRunOf l None → l ≡ loyal_letter K s before g
    loyal none has run =
        let sends = briefed.loyal none in
        (λ i. record {
          general = own i;
          round = of_round i;
          context = briefed.context i;
          program = has i;
          transcript = run.0 i;
          steps = run.1 i;
          outbox = record { relay = briefed.relay i; rows = sends.0 i; entries = sends.1 i };
          exited = run.3 i;
        })

    traitor : (p : List Insn) → l.program ≡ Some p → IsRunOf l (Some p) → EndedInTime s l → IsLetterOf K s before g (Some p) l
    traitor p has run over =
        let A : List ℕ → Relay → Type 0 = λ context relay. Runs l.steps (started None p context relay) l.transcript run.1 in (
          run.1,
          subst (λ (own : Relay). A (K.context s before g) own) briefed.relay (subst (λ (context : List ℕ). A context l.outbox.relay) briefed.context run.2),
          (λ i. record {
            general = own i;
            round = of_round i;
            context = briefed.context i;
            program = has i;
            transcript = l.transcript;
            steps = l.steps;
            outbox = record { relay = briefed.relay i; rows = run.3 i; entries = run.5 i };
            exited = run.4 i;
          }),
          over.within,
          over.over,
        )

    by : (o : Option (List Insn)) → program_of s g ≡ o → l.program ≡ o → EndedInTime s l → IsLetterOf K s before g o l
    by None none has over = loyal none has (let A : Option (List Insn) → Type 0 = λ o. IsRunOf l o in subst A has kept.run)
    by (Some p) some has over = traitor p has (let A : Option (List Insn) → Type 0 = λ o. IsRunOf l o in subst A has kept.run) over

    pub is_of : l.program ≡ program_of s g → EndedInTime s l → IsLetterOf K s before g (program_of s g) l
    is_of has over = by (program_of s g) refl has over

  -- The same for a general of the scenario, in both directions.
  pub stands_for : (s : Scenario) (before : List (List Letter)) (piece : List Access) (g : ℕ) (l : Letter) → IsLetterOf K s before g (program_of s g) l × (accesses_of g piece ≡ l.transcript)
      → Stands s piece g (suc (length before)) l × IsBriefed K s before g l
  stands_for s before piece g l h = stood s before piece g (program_of s g) l refl h.0 h.1

  -- The checks are true exactly if the letter is the general's letter of the round.
  pub holds : (s : Scenario) (before : List (List Letter)) (piece : List Access) (g round : ℕ) (l : Letter) → IsLetter l
      → round ≡ suc (length before) → Stands s piece g round l → (b : Bool) → IsTrue b ↔ IsBriefed K s before g l
      → IsTrue b ↔ (IsLetterOf K s before g (program_of s g) l × (accesses_of g piece ≡ l.transcript))
  holds s before piece g round l kept e st b has = (
    λ y. (is_of s before g l kept st.general (st.round_is ∙ e) (has.0 y) st.program st.over, st.part),
    λ h. has.1 (stands_for s before piece g l h).1,
  )

  module _ (shapes : (s : Scenario) (before : List (List Letter)) (g : ℕ) → (K.relay s before g).shape ≡ shape_of s g (suc (length before))) where
    whose : (s : Scenario) (before : List (List Letter)) (g : ℕ) (o : Option (List Insn)) (l : Letter) → IsLetterOf K s before g o l → (l.round ≡ suc (length before)) × (l.outbox.relay.shape ≡ shape_of s l.general (suc (length before)))
    whose s before g None l e = (
      ap (λ (x : Letter). x.round) e,
      ap (λ (x : Letter). x.outbox.relay.shape) e ∙ (shapes s before g ∙ ap (λ (h : ℕ). shape_of s h (suc (length before))) (sym (ap (λ (x : Letter). x.general) e))),
    )
    whose s before g (Some p) l h = (
      ap (λ (x : Letter). x.round) h.2,
      ap (λ (x : Letter). x.outbox.relay.shape) h.2 ∙ (shapes s before g ∙ ap (λ (k : ℕ). shape_of s k (suc (length before))) (sym (ap (λ (x : Letter). x.general) h.2))),
    )

    -- If a round is accounted for, its letters are letters of this round.
    pub are_letters_of : (s : Scenario) (before : List (List Letter)) (piece : List Access) (row : List Letter) → IsAccountedRound K s before piece row → AreLettersOf s (suc (length before)) row
    are_letters_of s before piece row h i l at = whose s before i (program_of s i) l (h.each i l at).0

    rounds_from : (s : Scenario) (before rows : List (List Letter)) (ledger : List Access) → AreAccounted K s before ledger rows → (i : ℕ) (row : List Letter) → slice_get rows i ≡ Some row → AreLettersOf s (suc (length before + i)) row
    rounds_from s before [] ledger h i row at = cc
    rounds_from s before (letters ∷ rows) ledger h zero row at =
        let same : letters ≡ row = cc in
        let e : suc (length before) ≡ suc (length before + 0) = omega arith in
        (let A : ℕ → List Letter → Type 0 = λ n ls. AreLettersOf s n ls in
        subst (λ (ls : List Letter). A (suc (length before + 0)) ls) same
        (subst (λ (n : ℕ). A n letters) e (are_letters_of s before (take (sum_by (λ l. length l.transcript) letters) ledger) letters h.0)))
    rounds_from s before (letters ∷ rows) ledger h (suc i) row at =
        let e : suc (length (before ++ letters ∷ []) + i) ≡ suc (length before + suc i) = omega (arith, length-append before (letters ∷ [])) in
        (let A : ℕ → Type 0 = λ n. AreLettersOf s n row in subst A e (rounds_from s (before ++ letters ∷ []) rows (drop (sum_by (λ l. length l.transcript) letters) ledger) h.1 i row at))

    -- If all rounds are accounted for, the letters of each are letters of that round.
    pub rounds_are : (s : Scenario) (ledger : List Access) (rows : List (List Letter)) → AreAccounted K s [] ledger rows → AreRoundsOf s rows
    rounds_are s ledger rows h i row at =
        let e : suc (0 + i) ≡ suc i = omega arith in
        (let A : ℕ → Type 0 = λ n. AreLettersOf s n row in subst A e (rounds_from s [] rows ledger h i row at))
