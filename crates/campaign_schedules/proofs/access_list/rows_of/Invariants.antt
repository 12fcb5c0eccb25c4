use Rattle.std.proofs.Common.{◌≡◌, List, ℕ, Ok, suc, length}
use Rattle.text.specs.Parts.{left, left_len}
use Rattle.world.specs.Playing.{lists_in}
use Rattle.campaign_schedules.specs.Accesses.{accesses_told, rows_told, slash}
use Rattle.campaign_schedules.proofs.access_list.rows_of.Given as goal

abbrev pub invariant-loop-rest : goal.invariant-loop-rest
invariant-loop-rest l = (told : List (List ℕ)) → accesses_told l.text ≡ Ok told
    → rows_told (lists_in l.rows.items) (suc (length l.rows.items)) (left slash l.rest) ≡ Ok told

abbrev pub decreases-loop-rest : goal.decreases-loop-rest
decreases-loop-rest l = left_len l.rest
