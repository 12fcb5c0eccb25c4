-- The text of a table, by the printer's result.
use Rattle.std.proofs.Common.{◌≡◌, ◌≤◌, Option, None, Some, Global, String, ap, false, string_bytes, subst, sym}
use Rattle.std.specs.Prelude.{◌↔◌, Result, Ok, Err, IfOk, option_map}
use Rattle.std.specs.declared.alloc.AllocError.{AllocError}
use Rattle.toml.specs.Data.{Members, members_depth, members_have_valid_dates}
use Rattle.toml.specs.Parse.{parse_document}
use Rattle.toml.specs.declared.ser.error.Error.{Error as PrintError}
use Rattle.toml.specs.declared.ser.error.Error.TheVariants.{DateInvalid}
use Rattle.scenario.specs.Parsed.{IsTextBy}
use Rattle.scenario.specs.Resolved.{IsPrinted}

pub told_so : (ms : Members) (printed : Result (String Global) PrintError) (answer : Result (Option (String Global)) AllocError)
    → IsTextBy printed answer
    → IfOk printed (λ s. members_depth ms ≤ 80 → parse_document (string_bytes s) ≡ Some ms)
    → ((printed ≡ Err DateInvalid) ↔ (members_have_valid_dates ms ≡ false))
    → IfOk answer (λ new. IsPrinted ms (option_map string_bytes new))
told_so ms (Ok text) (Ok (Some own)) is reads dates =
    subst (λ (s : String Global). IsPrinted ms (Some (string_bytes s))) (sym is) reads
told_so ms (Ok text) (Ok None) is reads dates = absurd is
told_so ms (Err error) (Ok (Some own)) is reads dates = absurd is
told_so ms (Err error) (Ok None) is reads dates = dates.0 (ap (λ (e : PrintError). Err e) is)
told_so ms printed (Err e) is reads dates = tt
