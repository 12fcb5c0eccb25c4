-- Defines the texts of errors. If `clap`, the parser of the command line, rejects the words, it writes the text, which
-- is not specified (own).
use Rattle.std.specs.Prelude.{ℕ, ◌++◌, List, Option, Some, None, codes, option_map, string_bytes}
use Rattle.std.specs.Fmt.{debug_str}
use Rattle.cli_words.specs.declared.errors.TaskError.{TaskError}
use Rattle.cli_words.specs.declared.errors.TaskError.TheVariants as error
use Rattle.cli_words.specs.declared.errors.Misuse.{Misuse}
use Rattle.cli_words.specs.declared.errors.Misuse.TheVariants.{Traitors, Of, Lie, Loyal, Most, Depth, NobodyNamed, TwoDrawings, TwoNotations, UnitsOfParts, TwoForms, TwoCourses, EntryAlone, OfAlone, LieAlone, Seed, Rule, Story, Generals, Bound, TraitorCount, Commander, NoGenerals, NoBound, NoTraitors, TwoSchedules, OutAlone}

-- Returns the text for an option with a wrong value. `wanted` says which values the option accepts.
abbrev pub invalid : List ℕ → List ℕ → List ℕ → Option (List ℕ)
invalid word option wanted = option_map
    (λ quoted. codes "invalid value " ++ quoted ++ codes " for '" ++ option ++ codes "': " ++ wanted) (debug_str word)

-- Returns the text of a misuse.
abbrev pub misuse_text : Misuse → Option (List ℕ)
misuse_text (Traitors word) =
    invalid (string_bytes word) (codes "--traitors <G,H>") (codes "the numbers of generals, 0 to 12, joined by commas")
misuse_text (Of word) = invalid (string_bytes word) (codes "--of <G>") (codes "the number of a general, 0 to 12")
misuse_text (Lie word) = invalid (string_bytes word) (codes "--lie <G>") (codes "the number of a general, 0 to 12")
misuse_text (Loyal word) = invalid (string_bytes word) (codes "--loyal <V>") (codes "an order, 0 to 4294967295")
misuse_text (Most word) =
    invalid (string_bytes word) (codes "--most <N>") (codes "a whole number, 1 to 18446744073709551615")
misuse_text (Depth word) = invalid (string_bytes word) (codes "--depth <D>") (codes "a number of levels, 0 to 4")
misuse_text (Seed word) =
    invalid (string_bytes word) (codes "--seed <S>") (codes "a whole number, 0 to 18446744073709551615")
misuse_text (Rule word) = invalid (string_bytes word) (codes "--rule <RULE>") (codes "majority or median")
misuse_text (Story word) =
    invalid (string_bytes word) (codes "--story <K>") (codes "the number of a story, 1 to 3")
misuse_text (Generals word) =
    invalid (string_bytes word) (codes "--generals <N>") (codes "how many generals there are, 2 to 13")
misuse_text (Bound word) = invalid (string_bytes word) (codes "--bound <M>") (codes "a bound on the traitors, 0 to 4")
misuse_text (TraitorCount word) =
    invalid (string_bytes word) (codes "--traitors <K>") (codes "a number of traitors, 0 to 12")
misuse_text (Commander word) =
    invalid (string_bytes word) (codes "--commander <C>") (codes "the number of a general, 0 to 12")
misuse_text NoGenerals = Some (codes "the argument '--generals <N>' is required")
misuse_text NoBound = Some (codes "the argument '--bound <M>' is required")
misuse_text NoTraitors = Some (codes "the argument '--traitors <K>' is required")
misuse_text NobodyNamed = Some (codes "the argument '--of <G>' is required")
misuse_text TwoDrawings =
    Some (codes "the arguments '--dot' and '--svg' cannot be used with each other, or with '--text' or '--ascii'")
misuse_text TwoNotations = Some (codes "the argument '--elf' cannot be used with '--asm'")
misuse_text UnitsOfParts = Some (codes "the argument '--units' cannot be used with '--partial'")
misuse_text TwoForms = Some (codes "the argument '--json' cannot be used with '--scenario'")
misuse_text TwoCourses = Some (codes "the argument '--schedule <FILE>' cannot be used with '--chronicle <FILE>'")
misuse_text EntryAlone = Some (codes "the argument '--entry <NAME>' cannot be used without '--elf'")
misuse_text OfAlone = Some (codes "the argument '--of <G>' cannot be used without '--explain'")
misuse_text LieAlone = Some (codes "the argument '--lie <G>' cannot be used without '--loyal <V>'")
misuse_text TwoSchedules = Some (codes "the argument '--seed <S>' cannot be used with '--schedule <FILE>'")
misuse_text OutAlone = Some (codes "the argument '--schedule-out <FILE>' cannot be used without '--seed <S>'")

-- Returns the text of an error, or `None` for an error of `clap`, the parser of the command line, which has its own
-- text.
abbrev pub error_text : TaskError → Option (List ℕ)
error_text (error.Words refusal) = None
error_text (error.Misuse misuse) = option_map (λ text. codes "error: " ++ text) (misuse_text misuse)
error_text error.Memory = Some (codes "out of memory")
