-- The first listed access that cannot be made.
use Rattle.std.proofs.Common.{arith, length, length-append, ◌+◌, ◌<◌, ◌≡◌, ℕ, zero, suc, List, [], ◌∷◌, ◌++◌, true, false, Bool, cond, refl, sym, ap, subst, ◌∙◌, Option, Some, None, Result, Ok, Err, nat_lt, take}
use Rattle.std.specs.Prelude.{slice_get, IfErr, IfOk, String}
use Rattle.std.specs.Global.{Global}
use Rattle.std.specs.String.{string_bytes}
use Rattle.text.specs.Parts.{pieces}
use Rattle.text.specs.Stop.{space}
use Rattle.round.specs.Scenario.{Scenario, IsScenario}
use Rattle.world.specs.declared.schedule.Repeat.{Repeat}
use Rattle.board.specs.Board.{Access, words_after}
use Rattle.round.specs.Letters.{Letter}
use Rattle.world.specs.Campaigns.{AreCampaigns, IsCampaign}
use Rattle.world.specs.Kind.{Kind, World, begun, opening}
use Rattle.world.specs.KindLists.{names_events}
use Rattle.world.proofs.Lasting.{IsOnTime, names_moves, opening_due, round_done}
use Rattle.campaign_orders.proofs.Winding.{wound, wound_so}
use Rattle.campaign_orders.specs.Orders.{past, behind, IsRoundFrom, IsFrom}
use Rattle.campaign_orders.specs.Text.{schedule_text}
use Rattle.campaign_orders.specs.Walks.{IsWalk, AreWalks, IsStuckAt, IsStuckIn}
use Rattle.campaign_orders.specs.Planning.{IsPlan, IsScheduleOf}
use Rattle.campaign_orders.specs.declared.schedule_outcome.Scheduled.TheVariants.{By}
use Rattle.campaign_orders.proofs.Deciding.{to_steps}
use Rattle.campaign_orders.proofs.Leading.{replay_completes}
use Rattle.campaign_schedules.specs.Accesses.{accesses_told, general_of, row_told, rows_told, slash, with_general, with_row}
use Rattle.campaign_schedules.specs.Arranged.{BeginsSo, IfFault, IsArranged, IsArrangement, IsFirstThatCannot, IsListedAt, IsNever, IsUnarranged, IsUnmade, until}
use Rattle.campaign_schedules.specs.Reading.{IsReadAs}
use Rattle.campaign_schedules.specs.declared.fault.AccessFault.{AccessFault}
use Rattle.campaign_schedules.specs.declared.fault.AccessesError.{AccessesError}
use Rattle.campaign_schedules.specs.declared.fault.AccessesError.TheVariants.{At, Memory}
use Rattle.campaign_schedules.specs.declared.fault.AccessFault.TheVariants.{Text, Never}

module _ (K : Kind) where
  -- Proves that the accesses before it can be made.
  line_before : (w : World) (names : List ℕ) (place : ℕ) → IsStuckAt K w names place → IsWalk K w (take place names)
  line_before w [] place s = absurd s
  line_before w (g ∷ names) zero s = tt
  line_before w (g ∷ names) (suc place) s = (s.0, line_before (past K w g) names place s.1)

  before_stuck : (w : World) (rows : List (List ℕ)) (round place : ℕ) → IsStuckIn K w rows round place → AreWalks K w (until rows round place)
  before_stuck w [] round place s = absurd s
  before_stuck w (names ∷ rows) zero place s = (line_before w names place s, tt)
  before_stuck w (names ∷ rows) (suc round) place s = (s.0, before_stuck (behind K w names) rows round place s.1)

  -- Proves that no round begins with the accesses up to this one.
  line_stuck : (w : World) (names rest : List ℕ) (place : ℕ) → IsStuckAt K w names place → IsRoundFrom K w (take (suc place) names ++ rest) → ⊥
  line_stuck w [] rest place s h = s
  line_stuck w (g ∷ names) rest zero s h = (let f = sym s ∙ h.0 in let c : false ≡ true = f in cc)
  line_stuck w (g ∷ names) rest (suc place) s h = line_stuck (past K w g) names rest place s.1 h.1

  never_from : (s : Scenario) → IsCampaign K s → (k : ℕ) (closed : List (List Letter)) (words : List ℕ) (ledger : List Access) (rows order : List (List ℕ)) (round place : ℕ) → IsOnTime K s (begun K s closed words ledger true)
      → length closed + k ≡ suc s.bound → IsFrom K (begun K s closed words ledger true) k order → IsStuckIn K (begun K s closed words ledger true) rows round place → BeginsSo rows round place order → ⊥
  never_from s sound k closed words ledger [] order round place d left h stuck b = stuck
  never_from s sound k closed words ledger (names ∷ rows) [] zero place d left h stuck b = b
  never_from s sound k closed words ledger (names ∷ rows) [] (suc round) place d left h stuck b = b
  never_from s sound zero closed words ledger (names ∷ rows) (row ∷ order) round place d left h stuck b = (let c : row ∷ order ≡ [] = h in cc)
  never_from s sound (suc k) closed words ledger (names ∷ rows) (row ∷ order) zero place d left h stuck b =
      (let A : List ℕ → Type 0 = λ l. IsRoundFrom K (begun K s closed words ledger true) l in line_stuck (begun K s closed words ledger true) names b.0 place stuck (subst A b.1 h.0))
  never_from s sound (suc k) closed words ledger (names ∷ rows) (row ∷ order) (suc round) place d left h stuck b =
      let w = begun K s closed words ledger true in
      let less : length closed < suc s.bound = omega arith in
      let c = wound K s sound closed words ledger d less names in
      let same : behind K w row ≡ behind K w names = wound_so K s sound closed words ledger d less names row stuck.0 h.0 b.0 in
      let done = round_done K s sound (names_events K w names) w (names_moves K names w) d less in
      let closed' = closed ++ c.letters ∷ [] in
      let A : World → Type 0 = λ v. IsOnTime K s v in
      let B : World → Type 0 = λ v. IsFrom K v k order in
      let C : World → Type 0 = λ v. IsStuckIn K v rows round place in
      never_from s sound k closed' (words_after words c.piece) (ledger ++ c.piece) rows order round place (subst A c.is done.due)
      (let l = length-append closed (c.letters ∷ []) in omega arith) (subst B (same ∙ c.is) h.1) (subst C c.is stuck.1) b.1

  -- Proves that its general is in the list.
  line_there : (w : World) (names : List ℕ) (place : ℕ) → IsStuckAt K w names place → (g : ℕ) × (slice_get names place ≡ Some g)
  line_there w [] place s = absurd s
  line_there w (g ∷ names) zero s = (g, refl)
  line_there w (g ∷ names) (suc place) s = line_there (past K w g) names place s.1

  pub stuck_there : (w : World) (rows : List (List ℕ)) (round place : ℕ) → IsStuckIn K w rows round place → IsListedAt rows round place
  stuck_there w [] round place s = absurd s
  stuck_there w (names ∷ rows) zero place s = line_there w names place s
  stuck_there w (names ∷ rows) (suc round) place s = stuck_there (behind K w names) rows round place s.1

module _ (K : Kind) (good : AreCampaigns K) where
  first_that_cannot : (s : Scenario) (rows : List (List ℕ)) (round place : ℕ) → IsScenario s → IsStuckIn K (opening K s) rows round place → IsFirstThatCannot K s rows round place
  first_that_cannot s rows round place is h = record {
    stuck = h;
    before = replay_completes K s (until rows round place) (good s is) (before_stuck K (opening K s) rows round place h);
    never = λ order o b. never_from K s (good s is) (suc s.bound) [] s.board [] rows order round place (opening_due K s (good s is)) (omega arith)
        (to_steps K good s order is o) h b;
  }

  pub unmade_by : (s : Scenario) (rows : List (List ℕ)) (round place : ℕ) (fault : AccessFault) → IsScenario s
      → IsStuckIn K (opening K s) rows round place → IsNever rows round place fault → IsUnmade K s rows fault
  unmade_by s rows round place fault is stuck never = (round, (place, never, first_that_cannot s rows round place is stuck))

pub arrangement_by : (K : Kind) (s : Scenario) (rows : List (List ℕ)) (schedule : List (List Repeat)) (lines : List ℕ)
    → IsScheduleOf K (opening K s) rows (By schedule) → IsPlan K s rows (By schedule) → IsReadAs (schedule_text schedule) schedule → lines ≡ schedule_text schedule → IsArrangement K s rows lines
arrangement_by K s rows schedule lines made plan read written =
    record { walks = made.0; schedule = schedule; entries = made.1; written = written; read = subst (λ (l : List ℕ). IsReadAs l schedule) (sym written) read; comes = plan.1 }

-- The same for the text that lists the accesses.
pub arranged_as : {E : Type 0} (result : Result (String Global) E) (K : Kind) (s : Scenario) (text : List ℕ) (rows given : List (List ℕ)) → accesses_told text ≡ Ok rows → given ≡ rows
    → IfOk result (λ lines. IsArrangement K s given (string_bytes lines)) → IfOk result (λ lines. IsArranged K s text (string_bytes lines))
arranged_as (Ok lines) K s text rows given told same is = (rows, told, subst (λ (l : List (List ℕ)). IsArrangement K s l (string_bytes lines)) same is)
arranged_as (Err error) K s text rows given told same is = tt

unarranged_by : (K : Kind) (s : Scenario) (text : List ℕ) (rows : List (List ℕ)) (error : AccessesError) → accesses_told text ≡ Ok rows
    → IfFault error (IsUnmade K s rows) → IfFault error (IsUnarranged K s text)
unarranged_by K s text rows (At (Text r p)) told (round, (place, never, first)) = absurd never
unarranged_by K s text rows (At (Never r p general)) told unmade = (rows, told, unmade)
unarranged_by K s text rows Memory told unmade = tt

pub unarranged_as : {A : Type 0} (result : Result A AccessesError) (K : Kind) (s : Scenario) (text : List ℕ) (rows given : List (List ℕ)) → accesses_told text ≡ Ok rows → given ≡ rows
    → IfErr result (λ e. IfFault e (IsUnmade K s given)) → IfErr result (λ e. IfFault e (IsUnarranged K s text))
unarranged_as (Ok lines) K s text rows given told same is = tt
unarranged_as (Err error) K s text rows given told same is = unarranged_by K s text rows error told (subst (λ (l : List (List ℕ)). IfFault error (IsUnmade K s l)) same is)

-- ---- a text that is not a list of accesses has a fault in its text

module _ (r p g : ℕ) where
  row_never : (round : ℕ) (before : List ℕ) (parts : List (List ℕ)) → row_told round before parts ≡ Err (Never r p g) → ⊥
  row_never round before [] is = cc
  row_never round before ([] ∷ parts) is = row_never round before parts is
  row_never round before ((c ∷ cs) ∷ parts) is =
      go (general_of (c ∷ cs)) (λ general e. row_never round (before ++ general ∷ []) parts e) is
    where
      go : (o : Option ℕ) → ((general : ℕ) → row_told round (before ++ general ∷ []) parts ≡ Err (Never r p g) → ⊥)
          → with_general round before o (λ general. row_told round (before ++ general ∷ []) parts) ≡ Err (Never r p g) → ⊥
      go None later is = cc
      go (Some general) later is = later general is

  rows_never : (before : List (List ℕ)) (round : ℕ) (parts : List (List ℕ)) → rows_told before round parts ≡ Err (Never r p g) → ⊥
  rows_never before round [] is = cc
  rows_never before round (part ∷ parts) is =
      go (row_told round [] (pieces space part)) refl (λ row e. rows_never (before ++ row ∷ []) (suc round) parts e) is
    where
      by : (row : List ℕ) (b : Bool) → (rows_told (before ++ row ∷ []) (suc round) parts ≡ Err (Never r p g) → ⊥)
          → cond b (Err (Text round 1)) (rows_told (before ++ row ∷ []) (suc round) parts) ≡ Err (Never r p g) → ⊥
      by row true later is = cc
      by row false later is = later is

      go : (told : Result (List ℕ) AccessFault) → row_told round [] (pieces space part) ≡ told
          → ((row : List ℕ) → rows_told (before ++ row ∷ []) (suc round) parts ≡ Err (Never r p g) → ⊥)
          → with_row round told (λ row. rows_told (before ++ row ∷ []) (suc round) parts) ≡ Err (Never r p g) → ⊥
      go (Err fault) told later is = row_never round [] (pieces space part) (told ∙ (let same : fault ≡ Never r p g = cc in ap Err same))
      go (Ok row) told later is = by row (nat_lt 5 round) (later row) is

  accesses_never : (text : List ℕ) → accesses_told text ≡ Err (Never r p g) → ⊥
  unfolding accesses_told
  accesses_never text is = rows_never [] 1 (pieces slash text) is

pub unlisted : (K : Kind) (s : Scenario) (text : List ℕ) (error : AccessesError) → IfFault error (λ fault. accesses_told text ≡ Err fault) → IfFault error (IsUnarranged K s text)
unlisted K s text (At (Text round place)) is = is
unlisted K s text (At (Never round place general)) is = absurd (accesses_never round place general text is)
unlisted K s text Memory is = tt
