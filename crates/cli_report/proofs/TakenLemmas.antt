-- The operands that a mnemonic takes, by the table of mnemonics.
use Rattle.std.proofs.Common.{◌≡◌, ℕ, List, [], ◌∷◌, Bool, true, false, cond, map, refl}
use Rattle.std.specs.Prelude.{Option, Some, option_map}
use Rattle.std.specs.Str.{bytes_eq}
use Rattle.asm.specs.Table.{first_named, name_of}
use Rattle.asm.specs.declared.mnemonic.Mnemonic.{Mnemonic}
use Rattle.cli_report.specs.declared.mnemonics.Takes.{Takes}
use Rattle.cli_report.specs.Mnemonics.{first_taken, takes_of}

by_test : (b : Bool) (m : Mnemonic) (takes : Option Takes) (rest : Option Mnemonic) → takes ≡ option_map takes_of rest
    → cond b (Some (takes_of m)) takes ≡ option_map takes_of (cond b (Some m) rest)
by_test true m takes rest e = refl
by_test false m takes rest e = e

pub taken_by : (word : List ℕ) (ms : List Mnemonic) → first_taken word (map (λ m. (name_of m, takes_of m)) ms) ≡ option_map takes_of (first_named word ms)
taken_by word [] = refl
taken_by word (m ∷ ms) = by_test (bytes_eq (name_of m) word) m _ (first_named word ms) (taken_by word ms)
