-- Defines that a helper returns a number within a range.
use Rattle.std.specs.Prelude.{ℕ, ◌≡◌, true, List, Some}
use Rattle.range.specs.Interval.{IsIn}
use Rattle.semantics.specs.Relay.{IsRelay, Relay}
use Rattle.semantics.specs.declared.value.Value.TheVariants.{Number}
use Rattle.semantics.specs.declared.request.Helper.{Helper}
use Rattle.semantics.specs.declared.request.Request.{Request}
use Rattle.semantics.specs.State.{State, Next, Ask, value_at}
use Rattle.semantics.specs.Call.{called, fits, resumed}
pub use Rattle.helper.specs.Table.{returned_range}

-- States that r0 holds a number from `lo` to `hi`.
abbrev pub HoldsResult : ℕ → ℕ → State → Type 0
HoldsResult lo hi s = (n : ℕ) × (value_at s.registers 0 ≡ Number n) × IsIn lo hi n

-- States that after a call r0 holds a number from `lo` to `hi`, at once or after the board has answered.
pub record Returns (helper : Helper) (lo hi : ℕ) : Type 0 where
  pub at_once : (context : List ℕ) (relay : Relay) (s after : State) → IsRelay relay →
      called context relay s (Some helper) ≡ Next after → HoldsResult lo hi after
  pub answered : (context : List ℕ) (relay : Relay) (s waiting : State) (request : Request) (words : List ℕ) →
      called context relay s (Some helper) ≡ Ask request waiting → fits request words ≡ true →
      HoldsResult lo hi (resumed request words waiting)
