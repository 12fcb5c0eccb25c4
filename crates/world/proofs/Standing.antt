-- In every run each open activation and each letter of a closed round is a run with the accesses of its transcript.
use Rattle.std.proofs.Common.{◌≡◌, ℕ, zero, suc, ◌<◌, List, [], ◌∷◌, ◌++◌, length, take, drop, Bool, true, false, cond, refl, sym, ap, subst, ◌∙◌, inl, inr, Option, Some, None, arith, All, length-append, ◌≤◌}
use Rattle.std.specs.Prelude.{slice_get, ◌==◌}
use Rattle.std.proofs.Math.Seq.{drop-append_seam}
use Rattle.std.proofs.lemmas.Bool.{cases_lt, ltb-true}
use Rattle.std.proofs.lemmas.List.Elements.{All-append, All-nil}
use Rattle.std.proofs.lemmas.Option.{slice_get_within}
use Rattle.insn.specs.declared.insn.Insn.{Insn}
use Rattle.board.specs.Board.{Access, IsBoard}
use Rattle.semantics.specs.Relay.{IsContext, Relay}
use Rattle.label.proofs.Ranks.{get_left, get_right}
use Rattle.round.specs.Scenario.{Scenario, program_of}
use Rattle.round.specs.Letters.{Letter}
use Rattle.round.specs.Contexts.{IsToldTo, shape_told, tells_oral}
use Rattle.round.specs.Activation.{Activation, started}
use Rattle.round.specs.Runs.{Runs, AreFitting, IsRunOf, IsLetter}
use Rattle.round.proofs.Fitting.{fitting_from, fitting_among}
use Rattle.round.proofs.Patience.{under, runs_under, within_none}
use Rattle.round.proofs.Ends.{steps_taken, proved_patience_is_kept}
use Rattle.round.proofs.Settled.{runs_settled, start_told}
use Rattle.world.specs.declared.event.Event.{Event}
use Rattle.world.specs.declared.event.Event.TheVariants.{Tick, Post, Close}
use Rattle.world.specs.Part.{Progress, Acting, Silent, Posted}
use Rattle.world.specs.Kind.{Kind, loyal_letter, World, each, accesses_of, begins, begun, round_open, opening, letters_at, round_letters, closing, happen, run}
use Rattle.world.specs.KindLists.{IsMove}
use Rattle.world.specs.Safety.{IsPlaced, PartsArePlaced, HasRun, IsMade, IsLetterIn, ActivationsAreRuns}
use Rattle.world.proofs.Kept.{Fits, IsKept}
use Rattle.world.proofs.Rounds.{opening_kept, happen_kept}
use Rattle.world.proofs.Punctual.{event_scenario}
use Rattle.world.proofs.Replies.{move_fitting}
use Rattle.world.proofs.Listing.{each-get_only, take-front, take-whole}
use Rattle.world.proofs.Moves.{SameRound, same_round, then_same, move_same}
use Rattle.world.proofs.Ways.{Midst, midst_first, move_midst}
use Rattle.world.proofs.Untrapped.{one_letter}
use Rattle.world.specs.Campaigns.{IsCampaign, AreCampaigns, TellsRelays, TellRelays}

no_program : (o : Option (List Insn)) → Fits o Posted → o ≡ None
no_program None fits = refl
no_program (Some program) fits = absurd fits

each_all : (P : Letter → Type 0) (n : ℕ) (f : ℕ → List Letter) → ((g : ℕ) → g < n → All P (f g)) → All P (each n f)
each_all P zero f h = All-nil P
each_all P (suc n) f h = All-append P (each n f) (f n) (each_all P n f (λ g lt. h g (omega arith))) (h n (omega arith))

-- A round is among the earlier closed ones, or it is the one that was closed last.
row_cases : (closed : List (List Letter)) (new row : List Letter) (k : ℕ) → slice_get (closed ++ new ∷ []) k ≡ Some row
    → (P : List (List Letter) → List Letter → Type 0) → (slice_get closed k ≡ Some row → P (take k closed) row) → P closed new → P (take k (closed ++ new ∷ [])) row
row_cases closed new row k at P old now =
    elim (cases_lt k (length closed)) [
      | inl less ↦
          let there : slice_get closed k ≡ Some row = sym (get_left closed (new ∷ []) k less) ∙ at in
          (let A : List (List Letter) → Type 0 = λ c. P c row in subst A (sym (take-front closed (new ∷ []) k (omega arith))) (old there))
      | inr more ↦
          let within = slice_get_within (closed ++ new ∷ []) k row at in
          let long = length-append closed (new ∷ []) in
          let last : k ≡ length closed = omega arith in
          let same : new ≡ row = (let f : Some new ≡ Some row = sym (get_right closed (new ∷ []) k 0 (omega arith)) ∙ at in cc) in
          let A : List (List Letter) → List Letter → Type 0 = λ c r. P c r in
          subst (λ (c : List (List Letter)). A c row) (sym (ap (λ (n : ℕ). take n (closed ++ new ∷ [])) last ∙ take-whole closed (new ∷ []))) (subst (λ (r : List Letter). A closed r) same now)
    ]

module _ (K : Kind) where
  -- States that the world is reached from the beginning of its open round.
  pub record Midway (s : Scenario) (w : World) : Type 0 where
    pub closed : List (List Letter)
    pub words : List ℕ
    pub ledger : List Access
    pub full : Bool
    pub same : SameRound (begun K s closed words ledger full) w
    pub midst : Midst K (begun K s closed words ledger full) w
    pub fitting : AreFitting w.ledger

  -- States also that each closed round has its generals' letters.
  pub record Standing (s : Scenario) (w : World) : Type 0 where
    pub midway : Midway s w
    pub rows : (k : ℕ) (row : List Letter) → slice_get w.closed k ≡ Some row → All (λ l. IsLetterIn K s (take k w.closed) l) row

  midway_first : (s : Scenario) (closed : List (List Letter)) (words : List ℕ) (ledger : List Access) (full : Bool) → AreFitting ledger → Midway s (begun K s closed words ledger full)
  midway_first s closed words ledger full fit = record {
    closed = closed;
    words = words;
    ledger = ledger;
    full = full;
    same = same_round (begun K s closed words ledger full);
    midst = midst_first K (begun K s closed words ledger full);
    fitting = fit;
  }

  -- How a traitor's activation begins.
  begins_acting : (s : Scenario) (closed : List (List Letter)) (g : ℕ) (o : Option (List Insn)) (b : Activation) → begins K s closed g o ≡ Acting b
      → (program : List Insn) × (o ≡ Some program) × (started s.patience program (K.context s closed g) (K.relay s closed g) ≡ b)
  begins_acting s closed g None b e = absurd (let f : Silent ≡ Acting b = e in cc)
  begins_acting s closed g (Some program) b e = (program, refl, (let f : Acting (started s.patience program (K.context s closed g) (K.relay s closed g)) ≡ Acting b = e in cc))

  pub record Began (s : Scenario) (closed : List (List Letter)) (g : ℕ) (b : Activation) : Type 0 where
    pub general : g < s.generals
    pub rounds : length closed ≤ s.bound
    pub program : List Insn
    pub is : program_of s g ≡ Some program
    pub start : started s.patience program (K.context s closed g) (K.relay s closed g) ≡ b

  began_by : (s : Scenario) (closed : List (List Letter)) (more : Bool) → round_open s closed ≡ more → (g : ℕ) (b : Activation) → slice_get (cond more (each s.generals (λ h. begins K s closed h (program_of s h) ∷ [])) []) g ≡ Some (Acting b) → Began s closed g b
  began_by s closed true more g b e =
      let h = each-get_only s.generals (λ j. begins K s closed j (program_of s j)) g (Acting b) e in
      let r = begins_acting s closed g (program_of s g) b (sym h.1) in
      let less = ltb-true (length closed) (suc s.bound) more in
      record { general = h.0; rounds = (let l = less in omega arith); program = r.0; is = r.1; start = r.2 }
  began_by s closed false more g b e = absurd (let f : None ≡ Some (Acting b) = e in cc)

  -- The run of a traitor's activation from the beginning of the round.
  pub record Ran (s : Scenario) (w : World) (g : ℕ) (a : Activation) : Type 0 where
    pub general : g < s.generals
    pub rounds : length w.closed ≤ s.bound
    pub fitting : AreFitting (accesses_of g (drop w.opened w.ledger))
    pub program : List Insn
    pub is : program_of s g ≡ Some program
    pub runs : Runs a.state.steps (started s.patience program (K.context s w.closed g) (K.relay s w.closed g)) (accesses_of g (drop w.opened w.ledger)) a

  pub ran : (s : Scenario) (w : World) (g : ℕ) (a : Activation) → Midway s w → slice_get w.parts g ≡ Some (Acting a) → Ran s w g a
  ran s w g a m at =
      let c = m.midst.ways g a at in
      let b = began_by s m.closed (round_open s m.closed) refl g c.1 c.2 in
      let piece : drop w.opened w.ledger ≡ m.midst.piece = (λ i. drop (m.same.opened i) (m.midst.ledger i)) ∙ drop-append_seam m.ledger m.midst.piece in
      let from = started s.patience b.program (K.context s m.closed g) (K.relay s m.closed g) in
      let runs : Runs c.0 from (accesses_of g m.midst.piece) a = (let A : Activation → Type 0 = λ x. Runs c.0 x (accesses_of g m.midst.piece) a in subst A (sym b.start) c.3) in
      let steps : a.state.steps ≡ c.0 = steps_taken s.patience b.program (K.context s m.closed g) (K.relay s m.closed g) c.0 (accesses_of g m.midst.piece) a runs in
      let A : ℕ → List (List Letter) → List Access → Type 0 = λ n cl p. Runs n (started s.patience b.program (K.context s cl g) (K.relay s cl g)) (accesses_of g p) a in
      record {
        general = b.general;
        rounds = (let A : List (List Letter) → Type 0 = λ cl. length cl ≤ s.bound in subst A (sym m.same.closed) b.rounds);
        fitting = fitting_among (λ x. x.general == g) (drop w.opened w.ledger) (fitting_from w.opened w.ledger m.fitting);
        program = b.program;
        is = b.is;
        runs = subst (λ (n : ℕ). A n w.closed (drop w.opened w.ledger)) (sym steps)
            (subst (λ (cl : List (List Letter)). A c.0 cl (drop w.opened w.ledger)) (sym m.same.closed)
            (subst (λ (p : List Access). A c.0 m.closed p) (sym piece) runs));
      }

  pub placed_at : (s : Scenario) (w : World) (g : ℕ) (a : Activation) → Ran s w g a → IsPlaced K s w.closed g a
  placed_at s w g a r =
      let same = runs_settled a.state.steps _ _ a r.runs in
      record { general = r.general; rounds = r.rounds; program = r.is ∙ ap Some (sym same.program); context = same.context; relay = same.relay; patience = same.patience }

  run_at : (s : Scenario) (w : World) (g : ℕ) (a : Activation) → Ran s w g a → HasRun w g a
  run_at s w g a r =
      let A : Activation → Type 0 = λ b. Runs a.state.steps b (accesses_of g (drop w.opened w.ledger)) a in
      (r.fitting, subst A (sym (start_told s.patience r.program (K.context s w.closed g) (K.relay s w.closed g) a.state.steps (accesses_of g (drop w.opened w.ledger)) a r.runs)) r.runs)

  made_by : (s : Scenario) (before : List (List Letter)) (l : Letter) (program : List Insn) → l.program ≡ Some program → IsRunOf l (Some program) → IsMade K s before l l.program
  made_by s before l program e h = (let A : Option (List Insn) → Type 0 = λ o. IsMade K s before l o in subst A (sym e) h)

  letter_in : (s : Scenario) (w : World) → w.scenario ≡ s → length w.closed ≤ s.bound → IsKept K w → Midway s w → (g : ℕ) → g < s.generals → (o : Option Progress) → slice_get w.parts g ≡ o → All (λ l. IsLetterIn K s w.closed l) (letters_at K w g o)
  letter_in s w sc more k m g lt None e = All-nil (λ l. IsLetterIn K s w.closed l)
  letter_in s w sc more k m g lt (Some (Acting a)) e =
      let r = ran s w g a m e in
      let context = K.context s w.closed g in
      let relay = K.relay s w.closed g in
      let t = accesses_of g (drop w.opened w.ledger) in
      let l : Scenario → Letter = λ v. record {
        general = g;
        round = suc (length w.closed);
        context = K.context v w.closed g;
        program = program_of v g;
        transcript = t;
        steps = a.state.steps;
        outbox = record { relay = K.relay v w.closed g; rows = a.state.outbox; entries = a.state.entries };
        exited = a.over;
      } in
      let one : IsLetterIn K s w.closed (l s) = record {
        general = lt;
        rounds = r.rounds;
        round = refl;
        context = refl;
        relay = refl;
        program = refl;
        within = proved_patience_is_kept.within s.patience r.program context relay a.state.steps t a r.runs;
        made = made_by s w.closed (l s) r.program r.is (r.fitting, under None a, runs_under None a.state.steps (started s.patience r.program context relay) t a tt r.runs, refl, refl, refl);
      } in
      one_letter (λ x. IsLetterIn K s w.closed x) (l w.scenario) (let A : Scenario → Type 0 = λ v. IsLetterIn K s w.closed (l v) in subst A (sym sc) one)
  letter_in s w sc more k m g lt (Some Silent) e = All-nil (λ l. IsLetterIn K s w.closed l)
  letter_in s w sc more k m g lt (Some Posted) e =
      let fits : Fits (program_of s g) Posted = (let A : Scenario → Type 0 = λ v. Fits (program_of v g) Posted in subst A sc (k.parts g Posted e).1) in
      let none : program_of s g ≡ None = no_program (program_of s g) fits in
      let one : IsLetterIn K s w.closed (loyal_letter K s w.closed g) = record { general = lt; rounds = more; round = refl; context = refl; relay = refl; program = sym none; made = refl; within = within_none s.patience } in
      one_letter (λ x. IsLetterIn K s w.closed x) (loyal_letter K w.scenario w.closed g) (let A : Scenario → Type 0 = λ v. IsLetterIn K s w.closed (loyal_letter K v w.closed g) in subst A (sym sc) one)

  round_in : (s : Scenario) (w : World) → w.scenario ≡ s → length w.closed ≤ s.bound → IsKept K w → Midway s w → All (λ l. IsLetterIn K s w.closed l) (round_letters K w)
  round_in s w sc more k m =
      each_all (λ l. IsLetterIn K s w.closed l) w.scenario.generals (λ g. letters_at K w g (slice_get w.parts g))
      (λ g lt. letter_in s w sc more k m g (let A : Scenario → Type 0 = λ v. g < v.generals in subst A sc lt) (slice_get w.parts g) refl)

  move_standing : (s : Scenario) (w : World) (e : Event) → IsMove e → IsBoard w.words → Standing s w → Standing s (happen K w e)
  move_standing s w e i board h =
      let m = h.midway in
      let first = begun K s m.closed m.words m.ledger m.full in
      let same = move_same K w e i in
      record {
        midway = record {
          closed = m.closed;
          words = m.words;
          ledger = m.ledger;
          full = m.full;
          same = then_same first w (happen K w e) m.same same;
          midst = move_midst K first w e i m.midst;
          fitting = move_fitting K w e i board m.fitting;
        };
        rows = (let A : List (List Letter) → Type 0 = λ c. (k : ℕ) (row : List Letter) → slice_get c k ≡ Some row → All (λ l. IsLetterIn K s (take k c) l) row in subst A (sym same.closed) h.rows);
      }

  event_standing : (s : Scenario) (w : World) (e : Event) → w.scenario ≡ s → IsKept K w → Standing s w → Standing s (happen K w e)
  event_standing s w (Tick g) sc k h = move_standing s w (Tick g) tt k.board h
  event_standing s w (Post g) sc k h = move_standing s w (Post g) tt k.board h
  event_standing s w Close sc k h = by (round_open w.scenario w.closed) refl
    where
      by : (b : Bool) → round_open w.scenario w.closed ≡ b → Standing s (cond b (closing K w) w)
      by true more =
          let less = ltb-true (length w.closed) (suc w.scenario.bound) more in
          let rounds : length w.closed ≤ s.bound = (let A : Scenario → Type 0 = λ v. length w.closed ≤ v.bound in subst A sc (let l = less in omega arith)) in
          let new = round_letters K w in
          record {
            midway = (let A : Scenario → Type 0 = λ v. Midway s (begun K v (w.closed ++ new ∷ []) w.words w.ledger (closing K w).full) in
                subst A (sym sc) (midway_first s (w.closed ++ new ∷ []) w.words w.ledger (closing K w).full h.midway.fitting));
            rows = λ n row at. row_cases w.closed new row n at (λ before r. All (λ l. IsLetterIn K s before l) r) (h.rows n row) (round_in s w sc rounds k h.midway);
          }
      by false more = h

  run_standing : (s : Scenario) (es : List Event) (w : World) → w.scenario ≡ s → IsKept K w → Standing s w → Standing s (run K w es)
  run_standing s [] w sc k h = h
  run_standing s (e ∷ es) w sc k h = run_standing s es (happen K w e) (event_scenario K w e ∙ sc) (happen_kept K w e k) (event_standing s w e sc k h)

  pub standing : (s : Scenario) (es : List Event) → IsCampaign K s → Standing s (run K (opening K s) es)
  standing s es is =
      run_standing s es (opening K s) refl (opening_kept K s is.scenario.board)
      (record { midway = midway_first s [] s.board [] true tt; rows = λ k row at. absurd (let f : None ≡ Some row = at in cc) })

  pub parts_are_placed : AreCampaigns K → PartsArePlaced K
  parts_are_placed good s events g a is at =
      placed_at s (run K (opening K s) events) g a (ran s (run K (opening K s) events) g a (standing s events (good s is)).midway at)

  -- A traitor's letter satisfies what every letter does.
  letter_kept : (s : Scenario) (before : List (List Letter)) (l : Letter) (program : List Insn) → IsCampaign K s → TellsRelays K s → IsLetterIn K s before l → l.program ≡ Some program → IsLetter l
  letter_kept s before l program is tells h traitor =
      let made : IsRunOf l (Some program) = (let A : Option (List Insn) → Type 0 = λ o. IsMade K s before l o in subst A traitor h.made) in
      record {
        context = (let A : List ℕ → Type 0 = λ c. IsContext c in subst A (sym h.context) (is.context before l.general h.general h.rounds));
        own = (let A : ℕ → List ℕ → Type 0 = λ n c. IsToldTo l.general n c in
            subst (λ (n : ℕ). A n l.context) (sym h.round) (subst (λ (c : List ℕ). A (suc (length before)) c) (sym h.context) (tells.own before l.general h.general h.rounds)));
        shape = ap (λ (r : Relay). r.shape) h.relay
            ∙ (tells.shape before l.general h.general h.rounds ∙ (λ i. shape_told l.general (sym h.round i) (sym h.context i)));
        kind = λ spoken. ap (λ (r : Relay). r.kind) h.relay
            ∙ tells.kind before l.general h.general h.rounds (let A : List ℕ → Type 0 = λ c. tells_oral c in subst A h.context spoken);
        run = (let A : Option (List Insn) → Type 0 = λ o. IsRunOf l o in subst A (sym traitor) made);
      }

  pub activations_are_runs : AreCampaigns K → TellRelays K → ActivationsAreRuns K
  activations_are_runs good tell = record {
    parts = λ s events g a is at. run_at s (run K (opening K s) events) g a (ran s (run K (opening K s) events) g a (standing s events (good s is)).midway at);
    letters = λ s events k row is at. (standing s events (good s is)).rows k row at;
    kept = λ s before l program is. letter_kept s before l program (good s is) (tell s is);
  }
