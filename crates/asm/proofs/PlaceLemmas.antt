-- On which lines the stored instructions are written.
use Rattle.std.proofs.Common.{◌≡◌, ◌≢◌, ◌∙◌, ◌≤◌, ℕ, List, [], ap, arith, refl, subst, sym}
use Rattle.std.specs.Prelude.{Result, Ok, Err}
use Rattle.std.specs.List.{flat_map}
use Rattle.std.proofs.lemmas.List.Folds.{flat_map-map}
use Rattle.insn.specs.Program.{most_units}
use Rattle.asm.specs.declared.fault.AsmError.{AsmError}
use Rattle.asm.specs.declared.fault.AsmError.TheVariants as answers
use Rattle.asm.specs.declared.reader.Reading.{Reading}
use Rattle.asm.specs.Keeping.{GivesGathered, Keeps}
use Rattle.asm.specs.Places.{AreWritten, kept_places, own_places}
use Rattle.asm.specs.Program.{Read, units_in}
use Rattle.asm.specs.Views.{kept_view}

places_kept : (kept : Reading) (r : Read) (places : List (List ℕ)) → Keeps kept r → places ≡ flat_map kept_places kept.sources.items →
    units_in r ≤ most_units → places ≡ flat_map own_places r.sources
places_kept kept r places keeps all few =
    let room : kept.units ≤ most_units = omega (arith, keeps.units) in
    all ∙ (sym (flat_map-map own_places kept_view kept.sources.items) ∙ ap (flat_map own_places) (keeps.sources room))

pub places_read : (read : Result Read AsmError) (kept : Reading) (places : List (List ℕ)) → GivesGathered (Ok kept) read →
    places ≡ flat_map kept_places kept.sources.items → AreWritten read places
places_read read kept places given all =
    let by_read : Result Read AsmError → Type 0 = λ x. AreWritten x places in
    subst by_read (sym given.1) (places_kept kept given.0 places given.2 all)

-- There are none for a text with a fault.
pub places_refused : (read : Result Read AsmError) (error : AsmError) (places : List (List ℕ)) → GivesGathered (Err error) read →
    error ≢ answers.Memory → places ≡ [] → AreWritten read places
places_refused read (answers.At fault line) places given apart none =
    let by_read : Result Read AsmError → Type 0 = λ x. AreWritten x places in
    subst by_read (sym given) none
places_refused read answers.Memory places given apart none = absurd (apart refl)
