-- The assembler reads the helpers' names.
use Rattle.std.proofs.Common.{◌≡◌, ◌+◌, ℤ, pos, Some, refl}
use denote.Enum.Declared.{tag_of}
use Rattle.asm.specs.Helper.{helper_of as number_of}
use Rattle.semantics.specs.Call.{helper_of}
use Rattle.semantics.specs.contracts.request.Helper.{the_type}
use Rattle.semantics.specs.declared.request.Helper.{Helper}
use Rattle.semantics.specs.declared.request.Helper.TheVariants.{BoardGet}
use Rattle.explain.specs.Names.{helper_name}
use Rattle.explain.specs.Laws.{NamesAreRead}

-- the second line is every other helper's
name_read : (helper : Helper) → (number : ℤ) × (helper_of number ≡ Some helper) × (number_of (helper_name helper) ≡ Some number)
unfolding helper_name number_of
name_read BoardGet = (pos 1, refl, refl)
name_read helper = (pos (tag_of the_type helper + 1), refl, refl)

pub names_read : NamesAreRead
names_read = record { read = name_read; all = refl; behind = refl }
