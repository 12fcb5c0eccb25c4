-- `clap` accepts the words exactly if the definitions find a task in them, and parses them as this task.
use Rattle.std.proofs.Common.{◌≡◌, ◌∙◌, ◌==◌, ◌++◌, ◌&&◌, ◌||◌, Bool, cond, true, false, not, List, ℕ, [], ◌∷◌, Option, Some, None, ap, ap₂, codes, refl, subst, sym, find, is_some, map, nat_lt, option_map}
use Rattle.std.proofs.lemmas.Bool.{and_parts, not-true}
use Rattle.std.proofs.lemmas.Slice.Eq.{bytes_eq-Decides}
use Rattle.std.specs.List.{fold, list_all, list_any}
use Rattle.std.specs.Option.{option_map_or}
use Rattle.std.specs.Prelude.{option_and_then}
use Rattle.std.specs.Str.{bytes_eq}
use Rattle.clap.specs.Kinds.{Kinds, or_else}
use Rattle.clap.specs.Lexer.{usize_max}
use Rattle.clap.specs.Walk.{Held, Names, Row, Rule, Text, Walk, answers_to, arg_by_long, arg_by_short, finished, idle, nothing_held, rows_after, settled, stop_after, subcommand_met, walk, walk_from, walked}
use Rattle.clap.specs.Simple.{App, Shape, built, built_leaf, entered, filled, help_rule, help_shape, inherited, label_of, marked_built, names_of, version_rule, with_leaf_noted}
use Rattle.clap.specs.Faults.{built_fault, check_fault, defaults_fault, entered_fault, fault_of, level_fault, long_fault, settle_fault, short_fault, turn_fault, walk_fault}
use Rattle.clap.specs.Words.{subcommand_of}
use Rattle.clap.proofs.FaultLemmas.{stopped_fault}
use Rattle.clap.proofs.OnLiterals.{clap_on_literals}
use Rattle.cli_words.specs.Asked.{spelt, told_in}
use Rattle.cli_words.specs.Lab.{app_before, app_for, app_with, lab_app, shape, task_met, usages_for}
use Rattle.cli_words.specs.Met.{has_places}
use Rattle.cli_words.specs.Tasks.{Told, has}
use Rattle.cli_words.specs.Usage.{Look, Usage, end_of_flags, long, look_of, plain, short, taken_in, value_at}
use Rattle.cli_words.specs.Usages.{usages}
use Rattle.cli_words.proofs.FlagLemmas.{none_long_fails, none_short_fails, version_long_fails, version_short_fails}
use Rattle.cli_words.proofs.LevelLemmas.{Agrees, built_shape}
use Rattle.cli_words.proofs.PlaceLemmas.{lacks_place}
use Rattle.cli_words.proofs.ReadLemmas.{taken_agrees}
use Rattle.cli_words.proofs.RowLemmas.{Met}
use Rattle.cli_words.proofs.RuleLemmas.{find_among, ids, is_clear, is_distinct, past, takers, takers_filled}
use Rattle.cli_words.proofs.WordLemmas.{Fails, Looks, dashes_pass, fails_as, fold_stopped, long_fails, looks, or_else-first, plain_turn, short_fails, trailing_in, turn_fails}

-- ---- the description of the program after `clap` built it

abbrev above : Shape
above = with_leaf_noted (marked_built (record app_before.top { is_leaf = false }))

abbrev top : Shape
top = record above { rules = filled help_rule ∷ filled version_rule ∷ [] }

abbrev built_usage : Usage → Shape
built_usage usage = built_shape usage.name usage.places usage.flags

abbrev built_subs : List Usage → List Shape
built_subs [] = built_leaf help_shape ∷ []
built_subs (usage ∷ rest) = built_usage usage ∷ built_subs rest

abbrev built_app : List Usage → App
built_app us = record { top = top; subs = built_subs us }

leaf_built : (usage : Usage) → nat_lt (past 1 usage.places) usize_max ≡ true → built_leaf (inherited above (shape usage)) ≡ built_usage usage
leaf_built usage few = ap (λ (rules : List Rule). record (built_usage usage) { rules = rules }) (takers_filled 1 usage.places usage.flags few)

subs_built : (us : List Usage) → list_all is_clear us ≡ true → map built_leaf (map (inherited above) (map shape us) ++ help_shape ∷ []) ≡ built_subs us
subs_built [] clear = refl
subs_built (usage ∷ rest) clear =
    let parts = and_parts (is_clear usage) (list_all is_clear rest) clear in
    let more = and_parts (is_distinct (ids usage.places usage.flags)) (nat_lt (past 1 usage.places) usize_max && not (bytes_eq usage.name (codes "help"))) parts.0 in
    let few = and_parts (nat_lt (past 1 usage.places) usize_max) (not (bytes_eq usage.name (codes "help"))) more.1 in
    λ i. leaf_built usage few.0 i ∷ subs_built rest parts.1 i

lab_built : (us : List Usage) → list_all is_clear us ≡ true → built (app_with us) ≡ built_app us
lab_built us clear = ap (λ (subs : List Shape). record { top = top; subs = subs }) (subs_built us clear)

-- ---- the program's errors, and the subcommand that it parses

abbrev usage_in : List Usage → Text → Option Usage
usage_in us name = find (λ usage. bytes_eq usage.name name) us

abbrev spelt_in : List Usage → List Text → Option Told
spelt_in us [] = None
spelt_in us (name ∷ words) = option_and_then (λ usage. told_in usage words) (usage_in us name)

-- The places of the subcommand have words.
abbrev are_filled : List Usage → Told → Bool
are_filled us told = option_map_or (λ usage. list_all (λ name. has name told) usage.places) (usage_in us told.name) false

-- If the definitions find no task in the words, `clap` fails. Otherwise it parses them as this task.
abbrev AgreesWith : List Usage → Kinds → Option (Text × List Row) → Option Told → Type 0
AgreesWith us kinds met None = Fails kinds
AgreesWith us kinds met (Some told) = (kinds ≡ []) × (task_met met ≡ Some told) × (are_filled us told ≡ true)

all_filled : (met : Met) (ps : List Text) → list_any (lacks_place met) ps ≡ false → list_all (λ p. is_some (value_at p met)) ps ≡ true
all_filled met [] none = refl
all_filled met (p ∷ ps) none = go (all_filled met ps) (is_some (value_at p met)) none
  where
    go : (list_any (lacks_place met) ps ≡ false → list_all (λ p. is_some (value_at p met)) ps ≡ true) → (b : Bool)
        → (not b || list_any (lacks_place met) ps) ≡ false → (b && list_all (λ p. is_some (value_at p met)) ps) ≡ true
    go rest true none = rest none
    go rest false none = absurd cc

module _ (us : List Usage) (clear : list_all is_clear us ≡ true) where
  abbrev names : Names
  names = names_of (built_app us)

  abbrev start : Walk
  start = walk_from nothing_held

  abbrev faults : List Text → Kinds
  faults words = built_fault (built_app us) nothing_held words

  abbrev met_in : List Text → Option (Text × List Row)
  met_in words = entered (built_app us) (stop_after top.rules names words)

  abbrev RuleAt : List Text → Option Told → Type 0
  RuleAt words told = AgreesWith us (faults words) (met_in words) told

  -- ---- a word as a subcommand's name

  abbrev known : Option Usage → Bool → Option Text
  known (Some usage) help = Some usage.name
  known None true = Some (codes "help")
  known None false = None

  name_met : (rest : List Usage) (word : Text) → subcommand_met (map label_of (built_subs rest)) idle word ≡ known (usage_in rest word) (bytes_eq (codes "help") word)
  name_met [] word = go (bytes_eq (codes "help") word)
    where
      go : (b : Bool) → option_map (λ s. s.0) (cond (b || false) (Some (label_of (built_leaf help_shape))) None) ≡ known None b
      go true = refl
      go false = refl
  name_met (usage ∷ rest) word = go (name_met rest word) (bytes_eq usage.name word)
    where
      go : subcommand_met (map label_of (built_subs rest)) idle word ≡ known (usage_in rest word) (bytes_eq (codes "help") word)
          → (b : Bool) → option_map (λ s. s.0) (cond (b || false) (Some (usage.name, [])) (find (answers_to word) (map label_of (built_subs rest))))
          ≡ known (cond b (Some usage) (usage_in rest word)) (bytes_eq (codes "help") word)
      go later true = refl
      go later false = later

  shape_met : (rest : List Usage) (name : Text) (usage : Usage) → usage_in rest name ≡ Some usage → find (λ s. answers_to name (label_of s)) (built_subs rest) ≡ Some (built_usage usage)
  shape_met [] name usage is = absurd cc
  shape_met (first ∷ rest) name usage is = go (shape_met rest name usage) (bytes_eq first.name name) is
    where
      go : (usage_in rest name ≡ Some usage → find (λ s. answers_to name (label_of s)) (built_subs rest) ≡ Some (built_usage usage)) → (b : Bool) → cond b (Some first) (usage_in rest name) ≡ Some usage
          → cond (b || false) (Some (built_usage first)) (find (λ s. answers_to name (label_of s)) (built_subs rest)) ≡ Some (built_usage usage)
      go later true is = let same : first ≡ usage = cc in ap (λ (u : Usage). Some (built_usage u)) same
      go later false is = later is

  clear_in : (rest : List Usage) (name : Text) (usage : Usage) → list_all is_clear rest ≡ true → usage_in rest name ≡ Some usage → is_clear usage ≡ true
  clear_in [] name usage all is = absurd cc
  clear_in (first ∷ rest) name usage all is =
      let parts = and_parts (is_clear first) (list_all is_clear rest) all in
      go parts.0 (clear_in rest name usage parts.1) (bytes_eq first.name name) is
    where
      go : is_clear first ≡ true → (usage_in rest name ≡ Some usage → is_clear usage ≡ true) → (b : Bool) → cond b (Some first) (usage_in rest name) ≡ Some usage → is_clear usage ≡ true
      go here later true is = let same : first ≡ usage = cc in subst (λ (u : Usage). is_clear u ≡ true) same here
      go here later false is = later is

  -- The errors after the words of the program, and after those of its subcommand.
  abbrev after_level : Bool → Kinds
  after_level met = or_else (settle_fault top.rules false nothing_held)
      (or_else (defaults_fault (settled top.rules nothing_held).rows top.rules)
      (check_fault top (finished top.rules nothing_held) met))

  nothing_left : after_level true ≡ []
  unfolding clap_on_literals
  nothing_left = refl

  abbrev after_walk : Kinds → Walk → Kinds
  after_walk kinds w = or_else kinds (or_else (entered_fault (built_app us) w.stopped)
      (or_else (settle_fault top.rules false w.held)
      (or_else (defaults_fault (settled top.rules w.held).rows top.rules)
      (check_fault top (finished top.rules w.held) (is_some (entered (built_app us) w.stopped))))))

  and_nothing : (kinds : Kinds) → Fails kinds → Fails (or_else kinds [])
  and_nothing [] fails = fails
  and_nothing (k ∷ ks) fails = λ e. cc

  -- ---- a subcommand

  module _ (word : Text) (rest : List Text) (usage : Usage) (is : usage_in us word ≡ Some usage) where
    abbrev below : Kinds
    below = level_fault (built_usage usage) [] nothing_held rest false []

    abbrev rows : List Row
    rows = rows_after (takers 1 usage.places usage.flags) [] rest

    word_is : usage.name ≡ word
    word_is = (bytes_eq-Decides usage.name word).0 (find_among (λ usage. bytes_eq usage.name word) us usage is).1

    same_is : usage_in us usage.name ≡ Some usage
    same_is = ap (usage_in us) word_is ∙ is

    clears : is_clear usage ≡ true
    clears = clear_in us word usage clear is

    parts : (is_distinct (ids usage.places usage.flags) ≡ true) × (nat_lt (past 1 usage.places) usize_max && not (bytes_eq usage.name (codes "help")) ≡ true)
    parts = and_parts (is_distinct (ids usage.places usage.flags)) (nat_lt (past 1 usage.places) usize_max && not (bytes_eq usage.name (codes "help"))) clears

    few : (nat_lt (past 1 usage.places) usize_max ≡ true) × (not (bytes_eq usage.name (codes "help")) ≡ true)
    few = and_parts (nat_lt (past 1 usage.places) usize_max) (not (bytes_eq usage.name (codes "help"))) parts.1

    met_is : subcommand_met names idle word ≡ Some usage.name
    met_is = name_met us word ∙ ap (λ (o : Option Usage). known o (bytes_eq (codes "help") word)) is

    no_help : bytes_eq usage.name (codes "help") ≡ false
    no_help = not-true (bytes_eq usage.name (codes "help")) few.1

    turns : turn_fault top names start word ≡ []
    turns = rw (met_is, no_help) refl

    meets : walked top.rules names start word ≡ record start { stopped = Some (usage.name, []) }
    unfolding walked
    meets = rw met_is refl

    passes : walk_fault top names start (word ∷ rest) ≡ []
    unfolding walk_fault
    passes = ap₂ (λ (k : Kinds) (w : Walk). or_else k (walk_fault top names w rest)) turns meets ∙ stopped_fault top names start (usage.name, []) rest

    stop_is : walk top.rules names nothing_held (word ∷ rest) ≡ record start { stopped = Some (usage.name, rest) }
    stop_is = ap (λ (w : Walk). fold (walked top.rules names) w rest) meets ∙ fold_stopped top.rules names start usage.name [] rest

    entered_is : entered (built_app us) (Some (usage.name, rest)) ≡ Some (usage.name, rows)
    entered_is = ap (λ (o : Option Shape). option_map (λ s. (s.name, rows_after s.rules [] rest)) o) (shape_met us usage.name usage same_is)

    below_is : entered_fault (built_app us) (Some (usage.name, rest)) ≡ below
    below_is = ap (λ (o : Option Shape). option_map_or (λ s. level_fault s [] nothing_held rest false []) o []) (shape_met us usage.name usage same_is)

    faults_are : faults (word ∷ rest) ≡ or_else below []
    faults_are =
        ap₂ after_walk passes stop_is
        ∙ ap₂ (λ (k : Kinds) (m : Option (Text × List Row)). or_else k (after_level (is_some m))) below_is entered_is
        ∙ ap (or_else below) nothing_left

    met_are : met_in (word ∷ rest) ≡ Some (usage.name, rows)
    met_are = ap (λ (w : Walk). entered (built_app us) w.stopped) stop_is ∙ entered_is

    as_told : (taken : Option Met) → Agrees usage.places below rows taken
        → AgreesWith us (or_else below []) (Some (usage.name, rows)) (option_map (λ met. record { name = usage.name; value = λ name. value_at name met }) taken)
    as_told None fails = and_nothing below fails
    as_told (Some met) agrees = (
      ap (λ (k : Kinds). or_else k []) agrees.0,
      (λ i. Some (record { name = usage.name; value = λ name. agrees.1 name i })),
      ap (λ (o : Option Usage). option_map_or (λ u. list_all (λ p. is_some (value_at p met)) u.places) o false) same_is ∙ all_filled met usage.places agrees.2,
    )

    at_usage : RuleAt (word ∷ rest) (told_in usage rest)
    at_usage =
        subst (λ (k : Kinds). AgreesWith us k (met_in (word ∷ rest)) (told_in usage rest)) (sym faults_are)
        (subst (λ (m : Option (Text × List Row)). AgreesWith us (or_else below []) m (told_in usage rest)) (sym met_are)
        (as_told (taken_in usage rest) (taken_agrees usage.name usage.places usage.flags parts.0 few.0 rest)))

  -- ---- another word

  lab_fails : (words : List Text) → Fails (walk_fault top names start words) → Fails (faults words)
  lab_fails words fails = or_else-first _ _ fails

  word_fails : (word : Text) (rest : List Text) → Fails (turn_fault top names start word) → Fails (faults (word ∷ rest))
  word_fails word rest fails = lab_fails (word ∷ rest) (turn_fails top names start word rest fails)

  no_words : Fails (faults [])
  unfolding clap_on_literals
  no_words = λ e. cc

  module _ (word : Text) (rest : List Text) (other : subcommand_met names idle word ≡ None) where
    dashes : bytes_eq word (codes "--") ≡ true → Fails (faults (word ∷ rest))
    unfolding clap_on_literals
    dashes ends =
        let passes = dashes_pass top names 1 idle [] None word other ends in
        fails_as (ap₂ (λ (k : Kinds) (w : Walk). after_walk (or_else k (walk_fault top names w rest)) (fold (walked top.rules names) w rest)) passes.0 passes.1) (behind rest)
      where
        behind : (rest : List Text) → Fails (after_walk (walk_fault top names (trailing_in 1 idle nothing_held) rest) (fold (walked top.rules names) (trailing_in 1 idle nothing_held) rest))
        behind [] = λ e. cc
        behind (more ∷ rest) = λ e. cc

    by_long : (name : Text) (v : Option Text) → Fails (long_fault top.rules false (arg_by_long top.rules name) v nothing_held)
    by_long name v = go (bytes_eq (codes "help") name) (bytes_eq (codes "version") name)
      where
        go : (help version : Bool) → Fails (long_fault top.rules false (cond (help || false) (Some (filled help_rule)) (cond (version || false) (Some (filled version_rule)) None)) v nothing_held)
        go true version = none_long_fails top.rules false nothing_held true v
        go false true = version_long_fails top.rules false nothing_held v
        go false false = none_long_fails top.rules false nothing_held false v

    by_short : (c : ℕ) (behind : Text) (then : Held → Kinds) → Fails (short_fault top.rules false (arg_by_short top.rules c) behind nothing_held then)
    by_short c behind then = go (104 == c) (86 == c)
      where
        go : (help version : Bool) → Fails (short_fault top.rules false (cond (help || false) (Some (filled help_rule)) (cond (version || false) (Some (filled version_rule)) None)) behind nothing_held then)
        go true version = none_short_fails top.rules false nothing_held true behind then
        go false true = version_short_fails top.rules false nothing_held behind then
        go false false = none_short_fails top.rules false nothing_held false behind then

    at_other : (look : Look) → Looks word look → Fails (faults (word ∷ rest))
    at_other end_of_flags seen = dashes seen
    at_other (long name v) seen = word_fails word rest (long_fails top names 1 idle [] None word other name v seen (by_long name v))
    at_other (short c behind) seen = word_fails word rest (short_fails top names 1 idle [] None word other c behind seen (arg_by_short top.rules c) refl (by_short c behind))
    at_other plain seen = word_fails word rest (fails_as (plain_turn top names 1 idle [] None word other seen).0 (λ e. cc))

  at_help : (word : Text) (rest : List Text) → subcommand_met names idle word ≡ Some (codes "help") → Fails (faults (word ∷ rest))
  at_help word rest met = word_fails word rest (rw met (λ e. cc))

  agrees_in : (words : List Text) → RuleAt words (spelt_in us words)
  agrees_in [] = no_words
  agrees_in (word ∷ rest) = go (usage_in us word) refl (bytes_eq (codes "help") word) refl
    where
      go : (o : Option Usage) → usage_in us word ≡ o → (help : Bool) → bytes_eq (codes "help") word ≡ help → RuleAt (word ∷ rest) (option_and_then (λ usage. told_in usage rest) o)
      go (Some usage) is help e = at_usage word rest usage is
      go None is true e = at_help word rest (name_met us word ∙ (λ i. known (is i) (e i)))
      go None is false e = at_other word rest (name_met us word ∙ (λ i. known (is i) (e i))) (look_of word) (looks word)

-- ---- the program

abbrev pub LabAgrees : Kinds → Option (Text × List Row) → Option Told → Type 0
LabAgrees kinds met None = Fails kinds
LabAgrees kinds met (Some told) = (kinds ≡ []) × (task_met met ≡ Some told) × (has_places told ≡ true)

all_clear : list_all is_clear usages ≡ true
all_clear = refl

as_lab : (kinds : Kinds) (met : Option (Text × List Row)) (told : Option Told) → AgreesWith usages kinds met told → LabAgrees kinds met told
as_lab kinds met None fails = fails
as_lab kinds met (Some told) agrees = agrees

-- `clap` accepts the words exactly if the definitions find a task in them, and parses them as this task.
pub rule_agrees : (words : List Text) → LabAgrees (fault_of lab_app words) (subcommand_of lab_app words) (spelt words)
rule_agrees words = as_lab (fault_of lab_app words) (subcommand_of lab_app words) (spelt words)
    (subst (λ (a : App). AgreesWith usages (built_fault a nothing_held words) (entered a (stop_after a.top.rules (names_of a) words)) (spelt words))
    (sym (lab_built usages all_clear)) (agrees_in usages all_clear words))

-- ---- only the subcommand that the first word names

all_of_one : (usage : Usage) → is_clear usage ≡ true → list_all is_clear (usage ∷ []) ≡ true
all_of_one usage clear = ap (λ (b : Bool). b && true) clear

found_alone : (word : Text) (usage : Usage) → usage_in usages word ≡ Some usage → usage_in (usage ∷ []) word ≡ Some usage
found_alone word usage is = ap (λ (b : Bool). cond b (Some usage) None) (find_among (λ usage. bytes_eq usage.name word) usages usage is).1

fault_is : (us : List Usage) → list_all is_clear us ≡ true → (words : List Text) → fault_of (app_with us) words ≡ built_fault (built_app us) nothing_held words
fault_is us clear words = ap (λ (a : App). built_fault a nothing_held words) (lab_built us clear)

met_with : (us : List Usage) → list_all is_clear us ≡ true → (words : List Text) → subcommand_of (app_with us) words ≡ entered (built_app us) (stop_after top.rules (names_of (built_app us)) words)
met_with us clear words = ap (λ (a : App). entered a (stop_after a.top.rules (names_of a) words)) (lab_built us clear)

module _ (word : Text) (rest : List Text) (usage : Usage) (is : usage_in usages word ≡ Some usage) where
  one_clear : list_all is_clear (usage ∷ []) ≡ true
  one_clear = all_of_one usage (clear_in usages all_clear usages word usage all_clear is)

  fault_alone : fault_of (app_with (usage ∷ [])) (word ∷ rest) ≡ fault_of lab_app (word ∷ rest)
  fault_alone =
      fault_is (usage ∷ []) one_clear (word ∷ rest)
      ∙ (faults_are (usage ∷ []) one_clear word rest usage (found_alone word usage is)
      ∙ sym (fault_is usages all_clear (word ∷ rest) ∙ faults_are usages all_clear word rest usage is))

  met_alone : subcommand_of (app_with (usage ∷ [])) (word ∷ rest) ≡ subcommand_of lab_app (word ∷ rest)
  met_alone =
      met_with (usage ∷ []) one_clear (word ∷ rest)
      ∙ (met_are (usage ∷ []) one_clear word rest usage (found_alone word usage is)
      ∙ sym (met_with usages all_clear (word ∷ rest) ∙ met_are usages all_clear word rest usage is))

-- With only this subcommand, `clap` fails and parses as with all of them.
pub record IsSame (app : App) (words : List Text) : Type 0 where
  pub fault : fault_of app words ≡ fault_of lab_app words
  pub met : subcommand_of app words ≡ subcommand_of lab_app words

pub same_for : (words : List Text) → IsSame (app_for words) words
same_for [] = record { fault = refl; met = refl }
same_for (word ∷ rest) = go (usage_in usages word) refl
  where
    go : (o : Option Usage) → usage_in usages word ≡ o → IsSame (app_with (option_map_or (λ usage. usage ∷ []) o usages)) (word ∷ rest)
    go None is = record { fault = refl; met = refl }
    go (Some usage) is = record { fault = fault_alone word rest usage is; met = met_alone word rest usage is }

-- What is true of each subcommand by itself, and of all together, is true of the subcommands for the words.
pub true_for : (P : List Usage → Bool) → P usages ≡ true → list_all (λ usage. P (usage ∷ [])) usages ≡ true → (words : List Text) → P (usages_for words) ≡ true
true_for P whole each [] = whole
true_for P whole each (word ∷ rest) = go (usage_in usages word) refl
  where
    among : (us : List Usage) (usage : Usage) → list_all (λ usage. P (usage ∷ [])) us ≡ true → usage_in us word ≡ Some usage → P (usage ∷ []) ≡ true
    among [] usage all is = absurd cc
    among (first ∷ us) usage all is =
        let parts = and_parts (P (first ∷ [])) (list_all (λ usage. P (usage ∷ [])) us) all in
        here parts.0 (among us usage parts.1) (bytes_eq first.name word) is
      where
        here : P (first ∷ []) ≡ true → (usage_in us word ≡ Some usage → P (usage ∷ []) ≡ true) → (b : Bool) → cond b (Some first) (usage_in us word) ≡ Some usage → P (usage ∷ []) ≡ true
        here first_is later true is = let same : first ≡ usage = cc in subst (λ (u : Usage). P (u ∷ []) ≡ true) same first_is
        here first_is later false is = later is

    go : (o : Option Usage) → usage_in usages word ≡ o → P (option_map_or (λ usage. usage ∷ []) o usages) ≡ true
    go None is = whole
    go (Some usage) is = among usages usage each is
