use Rattle.std.proofs.Common.{◌≡◌, ℕ, List, [], Ok}
use Rattle.text.specs.Parts.{left, left_len, pieces}
use Rattle.text.specs.Stop.{space}
use Rattle.campaign_schedules.specs.Accesses.{row_told}
use Rattle.campaign_schedules.proofs.access_list.row_of.Given as goal

abbrev pub invariant-loop-rest : goal.invariant-loop-rest
invariant-loop-rest l = (round : ℕ) (told : List ℕ) → row_told round [] (pieces space l.text) ≡ Ok told
    → row_told round l.row.items (left space l.rest) ≡ Ok told

abbrev pub decreases-loop-rest : goal.decreases-loop-rest
decreases-loop-rest l = left_len l.rest
