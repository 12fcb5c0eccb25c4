use Rattle.std.proofs.Common.{◌≡◌, ◌≤◌, ℕ, length}
use Rattle.std.specs.Prelude.{slice_get}
use Rattle.std.specs.Vec.{vec_len, vec_capacity}
use Rattle.world.specs.Closing.{letters_from}
use Rattle.world.proofs.letters.letters.Given as goal

abbrev pub invariant-loop-general : goal.invariant-loop-general
invariant-loop-general l = record {
  list : l.list.items ≡ letters_from l.general l.fn.round l.fn.drafts.items l.initial.parts.items;
  few : vec_len l.list ≤ l.general;
  room : l.fn.generals ≤ vec_capacity l.list;
  count : length l.drafts.items ≡ l.fn.generals;
  drafts : (j : ℕ) → l.general ≤ j → slice_get l.drafts.items j ≡ slice_get l.fn.drafts.items j;
  parts : (j : ℕ) → l.general ≤ j → slice_get l.parts.items j ≡ slice_get l.initial.parts.items j;
}
