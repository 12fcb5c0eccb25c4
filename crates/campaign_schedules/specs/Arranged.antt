-- Schedules by which a campaign, oral or signed, has the accesses that a list names, in this order (own).
use Rattle.std.specs.Prelude.{ℕ, zero, suc, ◌≡◌, List, [], ◌∷◌, ◌++◌, Option, Some, Ok, Err, option_and_then, slice_get, take}
use Rattle.round.specs.Scenario.{Scenario}
use Rattle.world.specs.declared.schedule.Repeat.{Repeat}
use Rattle.world.specs.Kind.{Kind, opening}
use Rattle.world.specs.KindLists.{listed, replayed}
use Rattle.world.specs.Schedules.{lines_by}
use Rattle.campaign_orders.specs.Orders.{IsOrder, order_of}
use Rattle.campaign_orders.specs.Schedules.{schedule_from}
use Rattle.campaign_orders.specs.Text.{schedule_text}
use Rattle.campaign_orders.specs.Walks.{AreWalks, Continues, IsCompletion, IsStuckIn}
use Rattle.campaign_schedules.specs.Reading.{IsReadAs}
use Rattle.campaign_schedules.specs.declared.fault.AccessFault.{AccessFault}
use Rattle.campaign_schedules.specs.declared.fault.AccessFault.TheVariants.{Text, Never}
use Rattle.campaign_schedules.specs.declared.fault.AccessesError.{AccessesError}
use Rattle.campaign_schedules.specs.declared.fault.AccessesError.TheVariants.{At, Memory}
use Rattle.campaign_schedules.specs.Accesses.{accesses_told}

-- Returns the rounds of a list up to `round`, where this last round has only its first `place` accesses. Both are
-- counted from 0.
abbrev pub until : List (List ℕ) → ℕ → ℕ → List (List ℕ)
until [] round place = []
until (names ∷ rows) zero place = take place names ∷ []
until (names ∷ rows) (suc round) place = names ∷ until rows round place

-- Returns the general who is listed at this round and place, both counted from 0, or None if there is none.
abbrev pub listed_at : List (List ℕ) → ℕ → ℕ → Option ℕ
listed_at rows round place = option_and_then (λ row. slice_get row place) (slice_get rows round)

-- States how an order of accesses begins. In each round before `round`, it has the listed accesses, and then the
-- accesses of others in ascending order. In this round it begins with the listed accesses up to and including
-- `place`.
abbrev pub BeginsSo : List (List ℕ) → ℕ → ℕ → List (List ℕ) → Type 0
BeginsSo (names ∷ rows) zero place (row ∷ order) = (rest : List ℕ) × (row ≡ take (suc place) names ++ rest)
BeginsSo (names ∷ rows) (suc round) place (row ∷ order) = Continues names row × BeginsSo rows round place order
BeginsSo _ _ _ _ = ⊥

-- States that the access at this round and place is the first that cannot be made. The listed accesses before it can
-- be made. After them, with the accesses of others in ascending order in each earlier round, its general makes no
-- further access. So no complete run has these accesses and then this one.
pub record IsFirstThatCannot (K : Kind) (s : Scenario) (rows : List (List ℕ)) (round place : ℕ) : Type 0 where
  pub stuck : IsStuckIn K (opening K s) rows round place
  pub before : IsCompletion (until rows round place)
      (order_of K s (replayed K s (until rows round place)))
  pub never : (order : List (List ℕ)) → IsOrder K s order → BeginsSo rows round place order → ⊥

-- States that the listed accesses can be made, and that `lines` is the text of a schedule by which they are made. In
-- each round they come in the listed order, and then the accesses of others in ascending order. The schedule has one
-- entry for each listed access.
pub record IsArrangement (K : Kind) (s : Scenario) (rows : List (List ℕ)) (lines : List ℕ) : Type 0 where
  pub walks : AreWalks K (opening K s) rows
  pub schedule : List (List Repeat)
  pub entries : schedule ≡ schedule_from K (opening K s) rows
  pub written : lines ≡ schedule_text schedule
  pub read : IsReadAs lines schedule
  pub comes : IsCompletion rows (order_of K s (listed s (lines_by schedule)))

-- States that `text` lists accesses, and that `lines` is the text of a schedule by which they are made.
abbrev pub IsArranged : Kind → Scenario → List ℕ → List ℕ → Type 0
IsArranged K s text lines = (rows : List (List ℕ)) × (accesses_told text ≡ Ok rows) × IsArrangement K s rows lines

-- States that some general is listed at this round and place.
abbrev pub IsListedAt : List (List ℕ) → ℕ → ℕ → Type 0
IsListedAt rows round place = (general : ℕ) × (listed_at rows round place ≡ Some general)

-- States that the fault says that the access at this round and place cannot be made. Both are counted from 0 here,
-- and from 1 in the fault.
abbrev pub IsNever : List (List ℕ) → ℕ → ℕ → AccessFault → Type 0
IsNever rows r p (Text round place) = ⊥
IsNever rows r p (Never round place general) = (round ≡ suc r) × (place ≡ suc p) × (listed_at rows r p ≡ Some general)

-- States that this is the fault of the first listed access that cannot be made.
abbrev pub IsUnmade : Kind → Scenario → List (List ℕ) → AccessFault → Type 0
IsUnmade K s rows fault = (r : ℕ) × ((p : ℕ) × IsNever rows r p fault × IsFirstThatCannot K s rows r p)

-- States that this is the first fault of the list's text or, if it has none, the fault of the first access that
-- cannot be made.
abbrev pub IsUnarranged : Kind → Scenario → List ℕ → AccessFault → Type 0
IsUnarranged K s text (Text round place) = accesses_told text ≡ Err (Text round place)
IsUnarranged K s text (Never round place general) =
    (rows : List (List ℕ)) × (accesses_told text ≡ Ok rows) × IsUnmade K s rows (Never round place general)

-- States that P holds of the error's fault, if the error is not that memory ran out.
abbrev pub IfFault : AccessesError → (AccessFault → Type 0) → Type 0
IfFault (At fault) P = P fault
IfFault Memory P = Unit {0}
