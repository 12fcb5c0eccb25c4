-- Defines what the words after the program's name ask for (own).
use Rattle.std.specs.Prelude.{◌&&◌, ◌||◌, not, Bool, true, List, [], ◌∷◌, Option, Some, None}
use Rattle.std.specs.Prelude.{codes, if◌then◌else◌, is_some, map, option_and_then, option_map}
use Rattle.std.specs.Borrow.{Bor}
use Rattle.std.specs.Option.{option_map_or}
use Rattle.combine.specs.Names.{rule_named}
use Rattle.bounds.specs.Stories.{story_numbered}
use Rattle.cli_words.specs.Generals.{bound_in, count_in, depth_in, general_in, generals_in, order_in, seed_in, size_in, traitors_in}
use Rattle.cli_words.specs.Tasks.{Told, are_two, campaigns, coursed, has, is_of, is_text, of_one, of_traitors, programs, ruled, sized, word_of}
use Rattle.cli_words.specs.Usage.{Text, Usage, taken_in, value_at}
use Rattle.cli_words.specs.Usages.{usage_named}

-- Returns the texts to which these references point.
abbrev pub words_of : List (Bor Text) → List Text
words_of = map (λ word. word.now)

-- Returns the subcommand's name and the values of its words, or `None` if the subcommand does not accept them.
abbrev pub told_in : Usage → List Text → Option Told
told_in usage words =
    option_map (λ met. record { name = usage.name; value = λ name. value_at name met }) (taken_in usage words)

-- Returns the subcommand that the first word names and the values of its words, or `None` if `clap`, the parser of the
-- command line, rejects the words.
abbrev pub spelt : List Text → Option Told
spelt [] = None
spelt (name ∷ words) = option_and_then (λ usage. told_in usage words) (usage_named name)

-- ---- what `clap` does not check

-- Checks whether `read` accepts the value of the option `name`, or the words do not have this option.
abbrev pub reads : {X : Type 0} → (Text → Option X) → Text → Told → Bool
reads read name told = option_map_or (λ word. is_some (read word)) (word_of name told) true

-- Checks whether the words have `other`, too, if they have `name`.
abbrev pub wants : Text → Text → Told → Bool
wants name other told = not (has name told) || has other told

-- Checks whether the words say in one way how a file is written: they do not have both `--asm` and `--elf`, and
-- `--entry` only with `--elf`.
abbrev pub has_notation : Told → Bool
has_notation told = not (has (codes "asm") told && has (codes "elf") told) && wants (codes "entry") (codes "elf") told

-- Checks whether the values of `--loyal` and `--lie` are an order and a general, and `--lie` is used only with
-- `--loyal`.
abbrev pub has_filling : Told → Bool
has_filling told = reads order_in (codes "loyal") told && reads general_in (codes "lie") told
    && wants (codes "lie") (codes "loyal") told

-- Checks whether `--generals`, `--bound` and `--traitors` are used, and the values of the last two and of `--commander`
-- Checks whether the words do not have both `name` and `other`.
abbrev pub excludes : Text → Text → Told → Bool
excludes name other told = not (has name told && has other told)

-- are a bound, a number of traitors and a general.
abbrev pub has_numbers : Told → Bool
has_numbers told = has (codes "generals") told && has (codes "bound") told && has (codes "traitors") told
    && reads bound_in (codes "bound") told && reads traitors_in (codes "traitors") told
    && reads general_in (codes "commander") told

-- Checks whether the words are those of a search, whose answer is printed in one form.
abbrev pub has_search : Told → Bool
has_search told = has_numbers told && excludes (codes "json") (codes "scenario") told

-- Checks whether `--of` is used, the value of `--depth` is a number of levels, and the words name at most one way to
-- draw the tree.
abbrev pub has_tree : Told → Bool
has_tree told = has (codes "of") told && reads depth_in (codes "depth") told
    && not (are_two (is_text told) (has (codes "dot") told) (has (codes "svg") told))

-- Checks whether the words name at most one schedule for a campaign, and only a random schedule is written to a file.
abbrev pub has_turns : Told → Bool
has_turns told = reads seed_in (codes "seed") told && excludes (codes "seed") (codes "schedule") told
    && wants (codes "schedule-out") (codes "seed") told

-- Checks whether `holds` is true, or the subcommand is not in `names`.
abbrev pub if_of : List Text → Told → Bool → Bool
if_of names told holds = not (is_of names told) || holds

-- Checks whether words that `clap`, the parser of the command line, accepts name a task: none of them is misused.
abbrev pub is_meant : Told → Bool
is_meant told = if_of programs told (has_notation told)
    && if_of of_traitors told (reads generals_in (codes "traitors") told)
    && if_of (codes "table" ∷ []) told (has_filling told)
    && if_of of_one told (reads general_in (codes "of") told)
    && if_of campaigns told (wants (codes "of") (codes "explain") told)
    && if_of (codes "explore" ∷ []) told (reads count_in (codes "most") told)
    && if_of (codes "tree" ∷ []) told (has_tree told)
    && if_of (codes "dis" ∷ []) told (excludes (codes "partial") (codes "units") told)
    && if_of coursed told (excludes (codes "chronicle") (codes "schedule") told)
    && if_of (codes "play" ∷ []) told (has_turns told)
    && if_of (codes "refute" ∷ []) told (reads story_numbered (codes "story") told)
    && if_of sized told (reads size_in (codes "generals") told)
    && if_of ruled told (reads rule_named (codes "rule") told)
    && if_of (codes "exhaust" ∷ []) told (has_search told)

-- Returns the subcommand and the values of its words, or `None` if `clap`, the parser of the command line, rejects the
-- words or they are misused.
abbrev pub asked : List Text → Option Told
asked words = option_and_then (λ told. if is_meant told then Some told else None) (spelt words)
