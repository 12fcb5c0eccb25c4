-- The first cell says whether the value is a number or a pointer.
use Rattle.std.proofs.Common.{◌∙◌, ap, sym, ℤ, get_or, to_z, rules}
use Rattle.std.specs.Prelude.{Ok}
use Rattle.std.specs.Int.{w32}
use Rattle.std.proofs.lemmas.Int.{to_z-of_z}
use Rattle.semantics.specs.declared.value.Region.{Region}
use Rattle.semantics.specs.declared.value.Value.TheVariants.{Pointer}
use Rattle.mem.proofs.KnownCells.{byte_known, pointer_known}
use Rattle.mem.proofs.stack.Stack.known_double.Goals as goal

pub returns-then-kind-eq-BYTE : goal.returns-then-kind-eq-BYTE
returns-then-kind-eq-BYTE c =
    byte_known c.self.inside.kinds c.self.inside.bytes c.self.inside.offsets c.args.self.now c.args.place c.number_at.result c.self.view_is c.self.invariant.bytes_room c.requires.inside
    c.if-kind-eq-BYTE.true c.requires.known c.number_at.ensures

pub returns-else-kind-eq-BYTE : goal.returns-else-kind-eq-BYTE
returns-else-kind-eq-BYTE c =
    pointer_known c.self.inside.kinds c.self.inside.bytes c.self.inside.offsets c.args.self.now c.args.place c.self.view_is c.requires.inside c.if-kind-eq-BYTE.false c.requires.known
    ∙ (ap (λ (r : Region). Ok (Pointer r (to_z w32 (get_or c.self.inside.offsets c.args.place 0)))) (sym c.region_of.ensures)
    ∙ ap (λ (o : ℤ). Ok (Pointer c.region_of.result o)) (sym (to_z-of_z w32 c.cast_signed.result (search rules) ∙ c.cast_signed.ensures)))
