-- Words that name a task are not misused, and words that are misused name no task.
use Rattle.std.proofs.Common.{◌≡◌, ◌&&◌, not, Bool, true, false, codes, is_some, ℕ, List, [], ◌∷◌, Option, Some, None, ap, refl, string_bytes}
use Rattle.std.proofs.lemmas.Bool.{and_from, and_left, and_right, or_right}
use Rattle.std.specs.Option.{option_map_or}
use Rattle.text.specs.Options.{◌>>=◌}
use Rattle.clap.specs.Walk.{Text}
use Rattle.combine.specs.Names.{rule_named}
use Rattle.combine.specs.declared.campaign_rule.Rule.{Rule}
use Rattle.bounds.specs.Stories.{story_numbered}
use Rattle.bounds.specs.declared.story.Story.{Story}
use Rattle.cli_words.specs.Asked.{has_filling, excludes, has_notation, has_numbers, has_search, has_tree, has_turns, if_of, is_meant, reads, wants}
use Rattle.cli_words.specs.Generals.{bound_in, count_in, depth_in, general_in, generals_in, order_in, seed_in, size_in, traitors_in}
use Rattle.cli_words.specs.Tasks.{AreExplained, AreTurns, IsCourse, IsDrawing, IsFilling, IsMisused, IsNotation, NamesCount, NamesGeneral, NamesSeed, NamesStory, Says, Told, are_two, campaigns, coursed, has, is_of, levels_in, named, rule_in, size_given, is_text, of_one, of_traitors, programs, ruled, sized, word_of}
use Rattle.cli_words.specs.declared.tasks.Course.{Course}
use Rattle.cli_words.specs.declared.tasks.Course.TheVariants.{Scheduled, Recorded}
use Rattle.cli_words.specs.declared.tasks.Drawing.{Drawing}
use Rattle.cli_words.specs.declared.tasks.Drawing.TheVariants.{Boxes, Ascii, Graph, Svg}
use Rattle.cli_words.specs.declared.tasks.Filling.{Filling}
use Rattle.cli_words.specs.declared.tasks.Lieutenants.{Lieutenants}
use Rattle.cli_words.specs.declared.tasks.Lieutenants.TheVariants.{All, One}
use Rattle.cli_words.specs.declared.tasks.Notation.{Notation}
use Rattle.cli_words.specs.declared.tasks.Notation.TheVariants.{Bytecode, Assembly, Object}
use Rattle.cli_words.specs.declared.tasks.Task.{Task}
use Rattle.cli_words.specs.declared.tasks.Task.TheVariants.{Check, Assemble, AssemblePartly, Disassemble, DisassemblePartly, Book, ExplainDecisions, Form, Refute, Exhaust, Certify, Play, Muster, Audit, Explore, Tree, Draw, Page, Retrace}
use Rattle.cli_words.specs.declared.tasks.Turns.{Turns}
use Rattle.cli_words.specs.declared.tasks.Turns.TheVariants.{OfFile, OfSeed}
use Rattle.cli_words.specs.declared.errors.Misuse.{Misuse}
use Rattle.cli_words.specs.declared.errors.Misuse.TheVariants.{Traitors, Of, Lie, Loyal, Most, Depth, NobodyNamed, TwoDrawings, TwoNotations, UnitsOfParts, TwoForms, TwoCourses, EntryAlone, OfAlone, LieAlone, Seed, Rule as BadRule, Story as BadStory, Generals as BadSize, Bound as BadBound, TraitorCount, Commander, NoGenerals, NoBound, NoTraitors, TwoSchedules, OutAlone}

-- ---- words that name a task

read_where : {X : Type 0} (read : Text → Option X) (word : Option Text) (x : X) → (word >>= read) ≡ Some x → option_map_or (λ w. is_some (read w)) word true ≡ true
read_where read None x is = refl
read_where read (Some word) x is = ap (λ o. is_some o) is

module _ (told : Told) where
  notation_holds : (notation : Notation) → IsNotation told notation → has_notation told ≡ true
  notation_holds Bytecode is = rw (is.0, is.1, is.2) refl
  notation_holds Assembly is = rw (is.0, is.1, is.2) refl
  notation_holds (Object entry) is = rw (is.0, is.1) (or_right (not (has (codes "entry") told)) true refl)

  general_holds : (name : Text) (g : Option ℕ) → NamesGeneral name told g → reads general_in name told ≡ true
  general_holds name None is = rw is refl
  general_holds name (Some g) is = read_where general_in (word_of name told) g is

  count_holds : (name : Text) (n : Option ℕ) → NamesCount name told n → reads count_in name told ≡ true
  count_holds name None is = rw is refl
  count_holds name (Some n) is = read_where count_in (word_of name told) n is

  filling_holds : (filling : Option Filling) → IsFilling told filling → has_filling told ≡ true
  filling_holds None is = rw (is.0, is.1) refl
  filling_holds (Some filling) is =
      and_from (reads order_in (codes "loyal") told && reads general_in (codes "lie") told) (wants (codes "lie") (codes "loyal") told)
      (and_from (reads order_in (codes "loyal") told) (reads general_in (codes "lie") told)
      (read_where order_in (word_of (codes "loyal") told) filling.order is.0) (general_holds (codes "lie") filling.liar is.1))
      (or_right (not (has (codes "lie") told)) (has (codes "loyal") told) (loyal (word_of (codes "loyal") told) is.0))
    where
      loyal : (word : Option Text) → (word >>= order_in) ≡ Some filling.order → is_some word ≡ true
      loyal None e = absurd cc
      loyal (Some word) e = refl

  lieutenant_holds : (explained : Option Lieutenants) → AreExplained told explained → reads general_in (codes "of") told ≡ true
  lieutenant_holds None is = rw is.1 refl
  lieutenant_holds (Some All) is = rw is.1 refl
  lieutenant_holds (Some (One g)) is = general_holds (codes "of") (Some g) is.1

  explanation_holds : (explained : Option Lieutenants) → AreExplained told explained → wants (codes "of") (codes "explain") told ≡ true
  explanation_holds None is = rw (is.0, is.1) refl
  explanation_holds (Some All) is = rw (is.0, is.1) refl
  explanation_holds (Some (One g)) is = or_right (not (has (codes "of") told)) (has (codes "explain") told) is.0

  levels_hold : (word : Option Text) (depth : ℕ) → levels_in word ≡ Some depth → option_map_or (λ w. is_some (depth_in w)) word true ≡ true
  levels_hold None depth is = refl
  levels_hold (Some word) depth is = ap (λ o. is_some o) is

  there : (word : Option Text) (g : ℕ) → (word >>= general_in) ≡ Some g → is_some word ≡ true
  there None g is = absurd cc
  there (Some word) g is = refl

  not_two : (b : Bool) → not (are_two b false false) ≡ true
  not_two true = refl
  not_two false = refl

  drawing_holds : (drawing : Drawing) → IsDrawing told drawing → not (are_two (is_text told) (has (codes "dot") told) (has (codes "svg") told)) ≡ true
  drawing_holds Boxes is = rw (is.1, is.2) (not_two (is_text told))
  drawing_holds Ascii is = rw (is.1, is.2) (not_two (is_text told))
  drawing_holds Graph is = rw (is.0, is.1, is.2) refl
  drawing_holds Svg is = rw (is.0, is.1) refl

  tree_holds : (g depth : ℕ) (drawing : Drawing) → NamesGeneral (codes "of") told (Some g) → IsDrawing told drawing
      → levels_in (word_of (codes "depth") told) ≡ Some depth → has_tree told ≡ true
  tree_holds g depth drawing named is levels =
      and_from (has (codes "of") told && reads depth_in (codes "depth") told) (not (are_two (is_text told) (has (codes "dot") told) (has (codes "svg") told)))
      (and_from (has (codes "of") told) (reads depth_in (codes "depth") told) (there (word_of (codes "of") told) g named) (levels_hold (word_of (codes "depth") told) depth levels))
      (drawing_holds drawing is)

  traitors_hold : (explained : Bool) (word : Option Text) (traitors : List ℕ) → named explained word ≡ Some traitors → option_map_or (λ w. is_some (generals_in w)) word true ≡ true
  traitors_hold explained None traitors is = refl
  traitors_hold explained (Some word) traitors is = ap (λ o. is_some o) is

  course_holds : (course : Course) → IsCourse told course → excludes (codes "chronicle") (codes "schedule") told ≡ true
  course_holds (Scheduled file) is = rw is.1 refl
  course_holds (Recorded file) is = rw (is.0, is.1) refl

  seed_holds : (seed : Option ℕ) → NamesSeed told seed → reads seed_in (codes "seed") told ≡ true
  seed_holds None is = rw is refl
  seed_holds (Some seed) is = read_where seed_in (word_of (codes "seed") told) seed is

  seed_there : (word : Option Text) (seed : ℕ) → (word >>= seed_in) ≡ Some seed → is_some word ≡ true
  seed_there None seed is = absurd cc
  seed_there (Some word) seed is = refl

  turns_hold : (turns : Turns) → AreTurns told turns → has_turns told ≡ true
  turns_hold (OfFile file) is = rw (is.1, is.2) refl
  turns_hold (OfSeed seed target) is =
      and_from (reads seed_in (codes "seed") told && excludes (codes "seed") (codes "schedule") told) (wants (codes "schedule-out") (codes "seed") told)
      (and_from (reads seed_in (codes "seed") told) (excludes (codes "seed") (codes "schedule") told) (seed_holds (Some seed) is.1)
      (rw (seed_there (word_of (codes "seed") told) seed is.1, is.0) refl))
      (or_right (not (has (codes "schedule-out") told)) (has (codes "seed") told) (seed_there (word_of (codes "seed") told) seed is.1))

module _ (told : Told) where
  rule_holds : (word : Option Text) (rule : Rule) → rule_in word ≡ Some rule → option_map_or (λ w. is_some (rule_named w)) word true ≡ true
  rule_holds None rule is = refl
  rule_holds (Some word) rule is = ap (λ o. is_some o) is

  size_holds : (word : Option Text) (size : ℕ) → size_given word ≡ Some size → option_map_or (λ w. is_some (size_in w)) word true ≡ true
  size_holds None size is = refl
  size_holds (Some word) size is = ap (λ o. is_some o) is

  story_holds : (story : Option Story) → NamesStory told story → reads story_numbered (codes "story") told ≡ true
  story_holds None is = rw is refl
  story_holds (Some story) is = read_where story_numbered (word_of (codes "story") told) story is

  -- Proves that the value of an option that must be used is read, and that the option is used.
  value_there : {X : Type 0} (read : Text → Option X) (word : Option Text) (x : X) → (word >>= read) ≡ Some x → is_some word ≡ true
  value_there read None x is = absurd cc
  value_there read (Some word) x is = refl

  search_holds : (generals bound traitors : ℕ) (commander : Option ℕ) → (word_of (codes "generals") told >>= size_in) ≡ Some generals
      → (word_of (codes "bound") told >>= bound_in) ≡ Some bound → (word_of (codes "traitors") told >>= traitors_in) ≡ Some traitors
      → NamesGeneral (codes "commander") told commander → (has (codes "json") told && has (codes "scenario") told) ≡ false → has_search told ≡ true
  search_holds generals bound traitors commander size limit most named one = rw (
    value_there size_in (word_of (codes "generals") told) generals size,
    value_there bound_in (word_of (codes "bound") told) bound limit,
    value_there traitors_in (word_of (codes "traitors") told) traitors most,
    read_where bound_in (word_of (codes "bound") told) bound limit,
    read_where traitors_in (word_of (codes "traitors") told) traitors most,
    general_holds told (codes "commander") commander named,
    one,
  ) refl

pub says_meant : (told : Told) (task : Task) → Says told task → is_meant told ≡ true
says_meant told (Check file notation context explained traced) says = rw says.0 (rw (notation_holds told notation says.2) refl)
says_meant told (Assemble file spelling target explained) says = rw says.0 refl
says_meant told (AssemblePartly file spelling target explained) says = rw says.0 refl
says_meant told (Disassemble file notation units explained) says = rw says.0 (rw (notation_holds told notation says.2, says.5) refl)
says_meant told (DisassemblePartly file notation explained) says = rw says.0 (rw (notation_holds told notation says.2, says.3, says.5) refl)
says_meant told (Book file) says = rw says.0 (rw says.3 refl)
says_meant told (ExplainDecisions file traitors) says =
    rw says.0 (rw (traitors_hold told (has (codes "explain") told) (word_of (codes "traitors") told) traitors.items says.2) refl)
says_meant told (Form n m c filling) says = rw says.0 (rw (filling_holds told filling says.4) refl)
says_meant told (Refute n m c rule story staged) says =
    rw says.0 (rw (rule_holds told (word_of (codes "rule") told) rule says.4, story_holds told story says.5) refl)
says_meant told (Exhaust generals bound traitors commander rule staged) says = rw says.0 (rw (
  read_where size_in (word_of (codes "generals") told) generals says.1,
  rule_holds told (word_of (codes "rule") told) rule says.5,
  search_holds told generals bound traitors commander says.1 says.2 says.3 says.4 says.6.1,
) refl)
says_meant told (Certify file notation generals) says =
    rw says.0 (rw (notation_holds told notation says.2, size_holds told (word_of (codes "generals") told) generals says.3) refl)
says_meant told (Play scenario turns account explained) says =
    rw says.0 (rw (lieutenant_holds told explained says.4, explanation_holds told explained says.4, turns_hold told turns says.2) refl)
says_meant told (Muster scenario explained) says = rw says.0 (rw (lieutenant_holds told explained says.2, explanation_holds told explained says.2) refl)
says_meant told (Audit scenario chronicle explained) says = rw says.0 (rw (lieutenant_holds told explained says.3, explanation_holds told explained says.3) refl)
says_meant told (Explore scenario most folder) says = rw says.0 (rw (count_holds told (codes "most") most says.2) refl)
says_meant told (Tree file general traitors drawing depth folded) says =
    rw says.0 (rw (
      traitors_hold told true (word_of (codes "traitors") told) traitors.items says.3,
      general_holds told (codes "of") (Some general) says.2,
      tree_holds told general depth drawing says.2 says.4 says.5,
    ) refl)
says_meant told (Draw scenario course) says = rw says.0 (rw (course_holds told course says.2) refl)
says_meant told (Page scenario course target) says = rw says.0 (rw (course_holds told course says.2) refl)
says_meant told (Retrace scenario accesses) says = rw says.0 refl

-- ---- words that are misused

not_read : {X : Type 0} (read : Text → Option X) (told : Told) (name word : Text) → word_of name told ≡ Some word → read word ≡ None → reads read name told ≡ false
not_read read told name word is none = rw (is, none) refl

broken : (names : List Text) (told : Told) (holds : Bool) → is_of names told ≡ true → holds ≡ false → if_of names told holds ≡ false
broken names told holds of fails = rw (of, fails) refl

module _ (a b c d e f g : Bool) where
  first_broken : a ≡ false → a && b && c && d && e && f && g ≡ false
  first_broken is = and_left (a && b && c && d && e && f) g (and_left (a && b && c && d && e) f (and_left (a && b && c && d) e (and_left (a && b && c) d (and_left (a && b) c (and_left a b is)))))

  second_broken : b ≡ false → a && b && c && d && e && f && g ≡ false
  second_broken is = and_left (a && b && c && d && e && f) g (and_left (a && b && c && d && e) f (and_left (a && b && c && d) e (and_left (a && b && c) d (and_left (a && b) c (and_right a b is)))))

  third_broken : c ≡ false → a && b && c && d && e && f && g ≡ false
  third_broken is = and_left (a && b && c && d && e && f) g (and_left (a && b && c && d && e) f (and_left (a && b && c && d) e (and_left (a && b && c) d (and_right (a && b) c is))))

  fourth_broken : d ≡ false → a && b && c && d && e && f && g ≡ false
  fourth_broken is = and_left (a && b && c && d && e && f) g (and_left (a && b && c && d && e) f (and_left (a && b && c && d) e (and_right (a && b && c) d is)))

  fifth_broken : e ≡ false → a && b && c && d && e && f && g ≡ false
  fifth_broken is = and_left (a && b && c && d && e && f) g (and_left (a && b && c && d && e) f (and_right (a && b && c && d) e is))

  sixth_broken : f ≡ false → a && b && c && d && e && f && g ≡ false
  sixth_broken is = and_left (a && b && c && d && e && f) g (and_right (a && b && c && d && e) f is)

  seventh_broken : g ≡ false → a && b && c && d && e && f && g ≡ false
  seventh_broken is = and_right (a && b && c && d && e && f) g is

-- the same of seven more behind them
module _ (first h i j k l m n : Bool) where
  either_broken : first ≡ false → first && h && i && j && k && l && m && n ≡ false
  either_broken is = and_left (first && h && i && j && k && l && m) n (and_left (first && h && i && j && k && l) m (and_left (first && h && i && j && k) l (and_left (first && h && i && j) k (and_left (first && h && i) j (and_left (first && h) i (and_left first h is))))))

  eighth_broken : h ≡ false → first && h && i && j && k && l && m && n ≡ false
  eighth_broken is = and_left (first && h && i && j && k && l && m) n (and_left (first && h && i && j && k && l) m (and_left (first && h && i && j && k) l (and_left (first && h && i && j) k (and_left (first && h && i) j (and_left (first && h) i (and_right first h is))))))

  ninth_broken : i ≡ false → first && h && i && j && k && l && m && n ≡ false
  ninth_broken is = and_left (first && h && i && j && k && l && m) n (and_left (first && h && i && j && k && l) m (and_left (first && h && i && j && k) l (and_left (first && h && i && j) k (and_left (first && h && i) j (and_right (first && h) i is)))))

  tenth_broken : j ≡ false → first && h && i && j && k && l && m && n ≡ false
  tenth_broken is = and_left (first && h && i && j && k && l && m) n (and_left (first && h && i && j && k && l) m (and_left (first && h && i && j && k) l (and_left (first && h && i && j) k (and_right (first && h && i) j is))))

  eleventh_broken : k ≡ false → first && h && i && j && k && l && m && n ≡ false
  eleventh_broken is = and_left (first && h && i && j && k && l && m) n (and_left (first && h && i && j && k && l) m (and_left (first && h && i && j && k) l (and_right (first && h && i && j) k is)))

  twelfth_broken : l ≡ false → first && h && i && j && k && l && m && n ≡ false
  twelfth_broken is = and_left (first && h && i && j && k && l && m) n (and_left (first && h && i && j && k && l) m (and_right (first && h && i && j && k) l is))

  thirteenth_broken : m ≡ false → first && h && i && j && k && l && m && n ≡ false
  thirteenth_broken is = and_left (first && h && i && j && k && l && m) n (and_right (first && h && i && j && k && l) m is)

  fourteenth_broken : n ≡ false → first && h && i && j && k && l && m && n ≡ false
  fourteenth_broken is = and_right (first && h && i && j && k && l && m) n is

module _ (told : Told) where
  abbrev of_program : Bool
  of_program = if_of programs told (has_notation told)

  abbrev of_naming : Bool
  of_naming = if_of of_traitors told (reads generals_in (codes "traitors") told)

  abbrev of_table : Bool
  of_table = if_of (codes "table" ∷ []) told (has_filling told)

  abbrev of_lieutenant : Bool
  of_lieutenant = if_of of_one told (reads general_in (codes "of") told)

  abbrev of_explanation : Bool
  of_explanation = if_of campaigns told (wants (codes "of") (codes "explain") told)

  abbrev of_exploration : Bool
  of_exploration = if_of (codes "explore" ∷ []) told (reads count_in (codes "most") told)

  abbrev of_tree : Bool
  of_tree = if_of (codes "tree" ∷ []) told (has_tree told)

  abbrev of_listing : Bool
  of_listing = if_of (codes "dis" ∷ []) told (excludes (codes "partial") (codes "units") told)

  abbrev of_course : Bool
  of_course = if_of coursed told (excludes (codes "chronicle") (codes "schedule") told)

  abbrev of_turns : Bool
  of_turns = if_of (codes "play" ∷ []) told (has_turns told)

  abbrev of_story : Bool
  of_story = if_of (codes "refute" ∷ []) told (reads story_numbered (codes "story") told)

  abbrev of_size : Bool
  of_size = if_of sized told (reads size_in (codes "generals") told)

  abbrev of_rule : Bool
  of_rule = if_of ruled told (reads rule_named (codes "rule") told)

  abbrev of_search : Bool
  of_search = if_of (codes "exhaust" ∷ []) told (has_search told)

  abbrev of_first : Bool
  of_first = of_program && of_naming && of_table && of_lieutenant && of_explanation && of_exploration && of_tree

  listing_broken : is_of (codes "dis" ∷ []) told ≡ true → excludes (codes "partial") (codes "units") told ≡ false → is_meant told ≡ false
  listing_broken of fails = eighth_broken of_first of_listing of_course of_turns of_story of_size of_rule of_search (broken (codes "dis" ∷ []) told (excludes (codes "partial") (codes "units") told) of fails)

  course_broken : is_of coursed told ≡ true → excludes (codes "chronicle") (codes "schedule") told ≡ false → is_meant told ≡ false
  course_broken of fails = ninth_broken of_first of_listing of_course of_turns of_story of_size of_rule of_search (broken coursed told (excludes (codes "chronicle") (codes "schedule") told) of fails)

  turns_broken : is_of (codes "play" ∷ []) told ≡ true → has_turns told ≡ false → is_meant told ≡ false
  turns_broken of fails = tenth_broken of_first of_listing of_course of_turns of_story of_size of_rule of_search (broken (codes "play" ∷ []) told (has_turns told) of fails)

  story_broken : is_of (codes "refute" ∷ []) told ≡ true → reads story_numbered (codes "story") told ≡ false → is_meant told ≡ false
  story_broken of fails = eleventh_broken of_first of_listing of_course of_turns of_story of_size of_rule of_search (broken (codes "refute" ∷ []) told (reads story_numbered (codes "story") told) of fails)

  size_broken : is_of sized told ≡ true → reads size_in (codes "generals") told ≡ false → is_meant told ≡ false
  size_broken of fails = twelfth_broken of_first of_listing of_course of_turns of_story of_size of_rule of_search (broken sized told (reads size_in (codes "generals") told) of fails)

  rule_broken : is_of ruled told ≡ true → reads rule_named (codes "rule") told ≡ false → is_meant told ≡ false
  rule_broken of fails = thirteenth_broken of_first of_listing of_course of_turns of_story of_size of_rule of_search (broken ruled told (reads rule_named (codes "rule") told) of fails)

  search_broken : is_of (codes "exhaust" ∷ []) told ≡ true → has_search told ≡ false → is_meant told ≡ false
  search_broken of fails = fourteenth_broken of_first of_listing of_course of_turns of_story of_size of_rule of_search (broken (codes "exhaust" ∷ []) told (has_search told) of fails)

  no_seed : reads seed_in (codes "seed") told ≡ false → has_turns told ≡ false
  no_seed fails =
      and_left (reads seed_in (codes "seed") told && excludes (codes "seed") (codes "schedule") told) (wants (codes "schedule-out") (codes "seed") told)
      (and_left (reads seed_in (codes "seed") told) (excludes (codes "seed") (codes "schedule") told) fails)

  two_schedules : has (codes "seed") told ≡ true → has (codes "schedule") told ≡ true → has_turns told ≡ false
  two_schedules seed schedule =
      and_left (reads seed_in (codes "seed") told && excludes (codes "seed") (codes "schedule") told) (wants (codes "schedule-out") (codes "seed") told)
      (and_right (reads seed_in (codes "seed") told) (excludes (codes "seed") (codes "schedule") told) (rw (seed, schedule) refl))

  out_alone : has (codes "schedule-out") told ≡ true → has (codes "seed") told ≡ false → has_turns told ≡ false
  out_alone out seed =
      and_right (reads seed_in (codes "seed") told && excludes (codes "seed") (codes "schedule") told) (wants (codes "schedule-out") (codes "seed") told)
      (rw (out, seed) refl)

  program_broken : is_of programs told ≡ true → has_notation told ≡ false → is_meant told ≡ false
  program_broken of fails = either_broken of_first of_listing of_course of_turns of_story of_size of_rule of_search (first_broken of_program of_naming of_table of_lieutenant of_explanation of_exploration of_tree (broken programs told (has_notation told) of fails))

  naming_broken : is_of of_traitors told ≡ true → reads generals_in (codes "traitors") told ≡ false → is_meant told ≡ false
  naming_broken of fails = either_broken of_first of_listing of_course of_turns of_story of_size of_rule of_search (second_broken of_program of_naming of_table of_lieutenant of_explanation of_exploration of_tree (broken of_traitors told (reads generals_in (codes "traitors") told) of fails))

  table_broken : is_of (codes "table" ∷ []) told ≡ true → has_filling told ≡ false → is_meant told ≡ false
  table_broken of fails = either_broken of_first of_listing of_course of_turns of_story of_size of_rule of_search (third_broken of_program of_naming of_table of_lieutenant of_explanation of_exploration of_tree (broken (codes "table" ∷ []) told (has_filling told) of fails))

  lieutenant_broken : is_of of_one told ≡ true → reads general_in (codes "of") told ≡ false → is_meant told ≡ false
  lieutenant_broken of fails = either_broken of_first of_listing of_course of_turns of_story of_size of_rule of_search (fourth_broken of_program of_naming of_table of_lieutenant of_explanation of_exploration of_tree (broken of_one told (reads general_in (codes "of") told) of fails))

  explanation_broken : is_of campaigns told ≡ true → wants (codes "of") (codes "explain") told ≡ false → is_meant told ≡ false
  explanation_broken of fails = either_broken of_first of_listing of_course of_turns of_story of_size of_rule of_search (fifth_broken of_program of_naming of_table of_lieutenant of_explanation of_exploration of_tree (broken campaigns told (wants (codes "of") (codes "explain") told) of fails))

  exploration_broken : is_of (codes "explore" ∷ []) told ≡ true → reads count_in (codes "most") told ≡ false → is_meant told ≡ false
  exploration_broken of fails = either_broken of_first of_listing of_course of_turns of_story of_size of_rule of_search (sixth_broken of_program of_naming of_table of_lieutenant of_explanation of_exploration of_tree (broken (codes "explore" ∷ []) told (reads count_in (codes "most") told) of fails))

  tree_broken : is_of (codes "tree" ∷ []) told ≡ true → has_tree told ≡ false → is_meant told ≡ false
  tree_broken of fails = either_broken of_first of_listing of_course of_turns of_story of_size of_rule of_search (seventh_broken of_program of_naming of_table of_lieutenant of_explanation of_exploration of_tree (broken (codes "tree" ∷ []) told (has_tree told) of fails))

  not_wanted : (name other : Text) → has name told ≡ true → has other told ≡ false → wants name other told ≡ false
  not_wanted name other there lacks = rw (there, lacks) refl

  nobody : has (codes "of") told ≡ false → has_tree told ≡ false
  nobody lacks =
      and_left (has (codes "of") told && reads depth_in (codes "depth") told) (not (are_two (is_text told) (has (codes "dot") told) (has (codes "svg") told)))
      (and_left (has (codes "of") told) (reads depth_in (codes "depth") told) lacks)

  no_depth : reads depth_in (codes "depth") told ≡ false → has_tree told ≡ false
  no_depth fails =
      and_left (has (codes "of") told && reads depth_in (codes "depth") told) (not (are_two (is_text told) (has (codes "dot") told) (has (codes "svg") told)))
      (and_right (has (codes "of") told) (reads depth_in (codes "depth") told) fails)

  abbrev are_used : Bool
  are_used = has (codes "generals") told && has (codes "bound") told && has (codes "traitors") told

  no_commander : reads general_in (codes "commander") told ≡ false → has_numbers told ≡ false
  no_commander fails = and_right (are_used && reads bound_in (codes "bound") told && reads traitors_in (codes "traitors") told) (reads general_in (codes "commander") told) fails

  no_count : reads traitors_in (codes "traitors") told ≡ false → has_numbers told ≡ false
  no_count fails = and_left (are_used && reads bound_in (codes "bound") told && reads traitors_in (codes "traitors") told) (reads general_in (codes "commander") told)
      (and_right (are_used && reads bound_in (codes "bound") told) (reads traitors_in (codes "traitors") told) fails)

  unread_here : are_used && reads bound_in (codes "bound") told ≡ false → has_numbers told ≡ false
  unread_here fails = and_left (are_used && reads bound_in (codes "bound") told && reads traitors_in (codes "traitors") told) (reads general_in (codes "commander") told)
      (and_left (are_used && reads bound_in (codes "bound") told) (reads traitors_in (codes "traitors") told) fails)

  no_bound : reads bound_in (codes "bound") told ≡ false → has_numbers told ≡ false
  no_bound fails = unread_here (and_right are_used (reads bound_in (codes "bound") told) fails)

  lacks_traitors : has (codes "traitors") told ≡ false → has_numbers told ≡ false
  lacks_traitors lacks = unread_here (and_left are_used (reads bound_in (codes "bound") told) (and_right (has (codes "generals") told && has (codes "bound") told) (has (codes "traitors") told) lacks))

  lacks_bound : has (codes "bound") told ≡ false → has_numbers told ≡ false
  lacks_bound lacks = unread_here (and_left are_used (reads bound_in (codes "bound") told)
      (and_left (has (codes "generals") told && has (codes "bound") told) (has (codes "traitors") told) (and_right (has (codes "generals") told) (has (codes "bound") told) lacks)))

  numbers_broken : is_of (codes "exhaust" ∷ []) told ≡ true → has_numbers told ≡ false → is_meant told ≡ false
  numbers_broken of fails = search_broken of (and_left (has_numbers told) (excludes (codes "json") (codes "scenario") told) fails)

  two_forms : has (codes "json") told ≡ true → has (codes "scenario") told ≡ true → has_search told ≡ false
  two_forms lines scenario = and_right (has_numbers told) (excludes (codes "json") (codes "scenario") told) (rw (lines, scenario) refl)

  two_drawn : are_two (is_text told) (has (codes "dot") told) (has (codes "svg") told) ≡ true → has_tree told ≡ false
  two_drawn are =
      and_right (has (codes "of") told && reads depth_in (codes "depth") told) (not (are_two (is_text told) (has (codes "dot") told) (has (codes "svg") told)))
      (ap not are)

pub misused_not_meant : (told : Told) (misuse : Misuse) → IsMisused told misuse → is_meant told ≡ false
misused_not_meant told (Traitors word) is = naming_broken told is.0 (not_read generals_in told (codes "traitors") (string_bytes word) is.1 is.2)
misused_not_meant told (Of word) is = lieutenant_broken told is.0 (not_read general_in told (codes "of") (string_bytes word) is.1 is.2)
misused_not_meant told (Lie word) is = table_broken told is.0
    (and_left (reads order_in (codes "loyal") told && reads general_in (codes "lie") told) (wants (codes "lie") (codes "loyal") told)
    (and_right (reads order_in (codes "loyal") told) (reads general_in (codes "lie") told) (not_read general_in told (codes "lie") (string_bytes word) is.1 is.2)))
misused_not_meant told (Loyal word) is = table_broken told is.0
    (and_left (reads order_in (codes "loyal") told && reads general_in (codes "lie") told) (wants (codes "lie") (codes "loyal") told)
    (and_left (reads order_in (codes "loyal") told) (reads general_in (codes "lie") told) (not_read order_in told (codes "loyal") (string_bytes word) is.1 is.2)))
misused_not_meant told (Most word) is = exploration_broken told is.0 (not_read count_in told (codes "most") (string_bytes word) is.1 is.2)
misused_not_meant told (Depth word) is = tree_broken told is.0 (no_depth told (not_read depth_in told (codes "depth") (string_bytes word) is.1 is.2))
misused_not_meant told (BadRule word) is = rule_broken told is.0 (not_read rule_named told (codes "rule") (string_bytes word) is.1 is.2)
misused_not_meant told (BadStory word) is = story_broken told is.0 (not_read story_numbered told (codes "story") (string_bytes word) is.1 is.2)
misused_not_meant told (BadSize word) is = size_broken told is.0 (not_read size_in told (codes "generals") (string_bytes word) is.1 is.2)
misused_not_meant told (BadBound word) is = numbers_broken told is.0 (no_bound told (not_read bound_in told (codes "bound") (string_bytes word) is.1 is.2))
misused_not_meant told (TraitorCount word) is = numbers_broken told is.0 (no_count told (not_read traitors_in told (codes "traitors") (string_bytes word) is.1 is.2))
misused_not_meant told (Commander word) is = numbers_broken told is.0 (no_commander told (not_read general_in told (codes "commander") (string_bytes word) is.1 is.2))
misused_not_meant told NoGenerals is = search_broken told is.0 (rw is.1 refl)
misused_not_meant told NoBound is = numbers_broken told is.0 (lacks_bound told is.1)
misused_not_meant told NoTraitors is = numbers_broken told is.0 (lacks_traitors told is.1)
misused_not_meant told NobodyNamed is = tree_broken told is.0 (nobody told is.1)
misused_not_meant told TwoDrawings is = tree_broken told is.0 (two_drawn told is.1)
misused_not_meant told TwoNotations is = program_broken told is.0 (rw (is.1, is.2) refl)
misused_not_meant told UnitsOfParts is = listing_broken told is.0 (rw (is.1, is.2) refl)
misused_not_meant told TwoForms is = search_broken told is.0 (two_forms told is.1 is.2)
misused_not_meant told TwoCourses is = course_broken told is.0 (rw (is.1, is.2) refl)
misused_not_meant told EntryAlone is = program_broken told is.0 (and_right (not (has (codes "asm") told && has (codes "elf") told)) (wants (codes "entry") (codes "elf") told) (not_wanted told (codes "entry") (codes "elf") is.1 is.2))
misused_not_meant told OfAlone is = explanation_broken told is.0 (not_wanted told (codes "of") (codes "explain") is.1 is.2)
misused_not_meant told LieAlone is = table_broken told is.0
    (and_right (reads order_in (codes "loyal") told && reads general_in (codes "lie") told) (wants (codes "lie") (codes "loyal") told) (not_wanted told (codes "lie") (codes "loyal") is.1 is.2))
misused_not_meant told (Seed word) is = turns_broken told is.0 (no_seed told (not_read seed_in told (codes "seed") (string_bytes word) is.1 is.2))
misused_not_meant told TwoSchedules is = turns_broken told is.0 (two_schedules told is.1 is.2)
misused_not_meant told OutAlone is = turns_broken told is.0 (out_alone told is.1 is.2)
