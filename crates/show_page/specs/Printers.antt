-- Hints for the readers of a page: where to find a part of the campaign for which the page has no room.
use Rattle.std.specs.Prelude.{ℕ, List, ◌++◌, codes}

unfoldable pub scenario_printer : List ℕ
scenario_printer = codes "it is in the scenario's file, and in the files that the scenario names."

unfoldable pub schedule_printer : List ℕ
schedule_printer = codes "it is the file of --schedule."

unfoldable pub programs_printer : List ℕ
programs_printer =
    codes "byzlab check --explain, with --asm or --elf, prints what is known about a program in a file of its own."

unfoldable pub picture_printer : List ℕ
picture_printer = codes "byzlab draw writes it, with --schedule or --chronicle as here."

unfoldable pub lieutenants_printer : List ℕ
lieutenants_printer =
    codes "byzlab play --explain, with --schedule as here, or byzlab audit --explain of the chronicle says why they "
    ++ codes "decide so."

unfoldable pub accesses_printer : List ℕ
accesses_printer =
    codes "they are in the chronicle: the file of --chronicle, or what byzlab play prints, with --schedule as here."

unfoldable pub chronicle_printer : List ℕ
chronicle_printer = codes "it is the file of --chronicle, or what byzlab play prints, with --schedule as here."
