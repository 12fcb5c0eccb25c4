-- The arguments of a subcommand after `clap` built them, and how `clap` finds them.
use Rattle.std.proofs.Common.{◌≡◌, ◌∙◌, ◌<◌, ◌≤◌, ◌+◌, ◌⊎◌, inl, inr, arith, Bool, cond, true, false, not, ◌&&◌, ◌||◌, ◌==◌, List, ℕ, suc, [], ◌∷◌, ◌++◌, map, min, nat_lt, Option, Some, None, ap, codes, find, refl, subst}
use Rattle.std.proofs.lemmas.Bool.{and_parts, eq-eqb, ltb-true, ne_eqb, not-true, or_parts}
use Rattle.std.proofs.lemmas.Slice.Eq.{bytes_eq-Decides}
use Rattle.std.specs.List.{list_any}
use Rattle.std.specs.Str.{bytes_eq}
use Rattle.clap.specs.Lexer.{usize_max}
use Rattle.clap.specs.Walk.{Row, Rule, Text, is_empty, arg_by_id, arg_by_index, arg_by_long, arg_by_short, has_row, with_default}
use Rattle.clap.specs.Simple.{filled, filled_from, help_rule, new_rule}
use Rattle.clap.specs.Faults.{default_fault, defaults_fault, given_default_fault}
use Rattle.clap.specs.Kinds.{Kinds, or_else}
use Rattle.clap.specs.Takes.{is_given}
use Rattle.clap.specs.declared.builder.action.ArgAction.TheVariants.{Set, SetTrue}
use Rattle.clap.specs.declared.builder.value_parser.ValueParser.TheVariants as vp
use Rattle.cli_words.specs.Lab.{flag_rule, place_rule}
use Rattle.cli_words.specs.Usage.{Flag, Usage, is_long, is_short, letter, option, switch}

-- ---- the rules

-- The rule of an argument with one value.
abbrev pub valued_rule : Text → Option Text → Option ℕ → Option ℕ → Bool → Rule
valued_rule name long short index required = record (new_rule name) {
  long = long;
  short = short;
  index = index;
  action = Some Set;
  range = Some (record { start_inclusive = 1; end_inclusive = 1 });
  value_names = 1;
  parser = Some vp.String;
  required = required;
}

abbrev pub switch_rule : Text → Rule
switch_rule name = record (new_rule name) {
  long = Some name;
  action = Some SetTrue;
  range = Some (record { start_inclusive = 0; end_inclusive = 0 });
  defaults = codes "false" ∷ [];
  missing = codes "true" ∷ [];
  parser = Some vp.Bool;
}

abbrev pub place_taker : ℕ → Text → Rule
place_taker i name = valued_rule name None None (Some i) true

abbrev pub taker : Flag → Rule
taker (switch name) = switch_rule name
taker (option name) = valued_rule name (Some name) None None false
taker (letter name c) = valued_rule name None (Some c) None false

abbrev pub help_taker : Rule
help_taker = filled help_rule

abbrev pub flag_takers : List Flag → List Rule
flag_takers [] = help_taker ∷ []
flag_takers (f ∷ fs) = taker f ∷ flag_takers fs

-- The places are numbered from i.
abbrev pub takers : ℕ → List Text → List Flag → List Rule
takers i [] fs = flag_takers fs
takers i (p ∷ ps) fs = place_taker i p ∷ takers (suc i) ps fs

-- The number after those of the places.
abbrev pub past : ℕ → List Text → ℕ
past i [] = i
past i (p ∷ ps) = past (suc i) ps

-- ---- the rules after `clap` built them

flags_filled : (i : ℕ) (fs : List Flag) → filled_from i (map flag_rule fs ++ help_rule ∷ []) ≡ flag_takers fs
flags_filled i [] = refl
flags_filled i (switch name ∷ fs) = ap (λ (rs : List Rule). taker (switch name) ∷ rs) (flags_filled i fs)
flags_filled i (option name ∷ fs) = ap (λ (rs : List Rule). taker (option name) ∷ rs) (flags_filled i fs)
flags_filled i (letter name c ∷ fs) = ap (λ (rs : List Rule). taker (letter name c) ∷ rs) (flags_filled i fs)

past_more : (i : ℕ) (ps : List Text) → i ≤ past i ps
past_more i [] = omega arith
past_more i (p ∷ ps) = let more : suc i ≤ past (suc i) ps = past_more (suc i) ps in omega (arith, more)

pub past_within : (i : ℕ) (gone rest : List Text) → past i gone ≤ past i (gone ++ rest)
past_within i [] rest = past_more i rest
past_within i (g ∷ gone) rest = past_within (suc i) gone rest

pub past_next : (i : ℕ) (gone : List Text) (p : Text) → past i (gone ++ p ∷ []) ≡ suc (past i gone)
past_next i [] p = refl
past_next i (g ∷ gone) p = past_next (suc i) gone p

pub place_after : (i : ℕ) → i < usize_max → min (i + 1) usize_max ≡ suc i
place_after i few = omega (arith, few)

pub takers_filled : (i : ℕ) (ps : List Text) (fs : List Flag) → nat_lt (past i ps) usize_max ≡ true
    → filled_from i ((map place_rule ps ++ map flag_rule fs) ++ help_rule ∷ []) ≡ takers i ps fs
takers_filled i [] fs few = flags_filled i fs
takers_filled i (p ∷ ps) fs few =
    let more : suc i ≤ past (suc i) ps = past_more (suc i) ps in
    let less : past (suc i) ps < usize_max = ltb-true (past (suc i) ps) usize_max few in
    ap (λ (j : ℕ). place_taker i p ∷ filled_from j ((map place_rule ps ++ map flag_rule fs) ++ help_rule ∷ [])) (place_after i (omega (arith, more, less)))
    ∙ ap (λ (rs : List Rule). place_taker i p ∷ rs) (takers_filled (suc i) ps fs few)

-- ---- members of a list

abbrev pub Among : {X : Type 0} → X → List X → Type 0
Among x [] = ⊥
Among x (y ∷ ys) = (y ≡ x) ⊎ Among x ys

pub find_among : {X : Type 0} (test : X → Bool) (xs : List X) (x : X) → find test xs ≡ Some x → Among x xs × (test x ≡ true)
find_among test [] x e = absurd cc
find_among {X} test (y ∷ ys) x e = go (find_among test ys x) (test y) refl e
  where
    go : (find test ys ≡ Some x → Among x ys × (test x ≡ true)) → (b : Bool) → test y ≡ b → cond b (Some y) (find test ys) ≡ Some x → Among x (y ∷ ys) × (test x ≡ true)
    go later true is e = let same : y ≡ x = cc in (inl same, subst (λ (z : X). test z ≡ true) same is)
    go later false is e = let rest = later e in (inr rest.0, rest.1)

-- ---- names

abbrev pub name_of : Flag → Text
name_of (switch name) = name
name_of (option name) = name
name_of (letter name c) = name

abbrev pub flag_ids : List Flag → List Text
flag_ids [] = codes "help" ∷ []
flag_ids (f ∷ fs) = name_of f ∷ flag_ids fs

abbrev pub ids : List Text → List Flag → List Text
ids [] fs = flag_ids fs
ids (p ∷ ps) fs = p ∷ ids ps fs

abbrev pub is_distinct : List Text → Bool
is_distinct [] = true
is_distinct (x ∷ xs) = not (list_any (bytes_eq x) xs) && is_distinct xs

-- No two places or flags have the same name, there are few places, and the subcommand is not called `help`.
abbrev pub is_clear : Usage → Bool
is_clear usage = is_distinct (ids usage.places usage.flags) && (nat_lt (past 1 usage.places) usize_max && not (bytes_eq usage.name (codes "help")))

pub apart : (x y : Text) (xs : List Text) → Among y xs → not (list_any (bytes_eq x) xs) ≡ true → bytes_eq x y ≡ false
apart x y [] among none = absurd among
apart x y (z ∷ zs) among none =
    let parts = or_parts (bytes_eq x z) (list_any (bytes_eq x) zs) (not-true (bytes_eq x z || list_any (bytes_eq x) zs) none) in
    elim among [
      | inl same ↦ subst (λ (t : Text). bytes_eq x t ≡ false) same parts.0
      | inr later ↦ apart x y zs later (ap not parts.1)
    ]

pub among_flags : (fs : List Flag) (f : Flag) → Among f fs → Among (name_of f) (flag_ids fs)
among_flags [] f among = absurd among
among_flags (g ∷ gs) f among = elim among [
  | inl same ↦ inl (ap name_of same)
  | inr later ↦ inr (among_flags gs f later)
]

pub among_ids : (ps : List Text) (fs : List Flag) (t : Text) → Among t (flag_ids fs) → Among t (ids ps fs)
among_ids [] fs t among = among
among_ids (p ∷ ps) fs t among = inr (among_ids ps fs t among)

pub among_places : (gone : List Text) (p : Text) (left : List Text) (fs : List Flag) → Among p (ids (gone ++ p ∷ left) fs)
among_places [] p left fs = inl refl
among_places (g ∷ gone) p left fs = inr (among_places gone p left fs)

pub same_text : (x y : Text) → x ≡ y → bytes_eq x y ≡ true
same_text x y = (bytes_eq-Decides x y).1

id_of : (f : Flag) → (taker f).id ≡ name_of f
id_of (switch name) = refl
id_of (option name) = refl
id_of (letter name c) = refl

flag_named : (fs : List Flag) (f : Flag) → is_distinct (flag_ids fs) ≡ true → Among f fs → arg_by_id (flag_takers fs) (name_of f) ≡ Some (taker f)
flag_named [] f distinct among = absurd among
flag_named (g ∷ gs) f distinct among =
    let parts = and_parts (not (list_any (bytes_eq (name_of g)) (flag_ids gs))) (is_distinct (flag_ids gs)) distinct in
    elim among [
      | inl same ↦
          ap (λ (b : Bool). cond b (Some (taker g)) (arg_by_id (flag_takers gs) (name_of f))) (same_text (taker g).id (name_of f) (id_of g ∙ ap name_of same))
          ∙ ap (λ (h : Flag). Some (taker h)) same
      | inr later ↦
          let other : bytes_eq (taker g).id (name_of f) ≡ false =
          ap (λ (t : Text). bytes_eq t (name_of f)) (id_of g) ∙ apart (name_of g) (name_of f) (flag_ids gs) (among_flags gs f later) parts.0 in
          ap (λ (b : Bool). cond b (Some (taker g)) (arg_by_id (flag_takers gs) (name_of f))) other ∙ flag_named gs f parts.1 later
    ]

-- The rule of a flag is found by its name.
pub named : (i : ℕ) (ps : List Text) (fs : List Flag) (f : Flag) → is_distinct (ids ps fs) ≡ true → Among f fs → arg_by_id (takers i ps fs) (name_of f) ≡ Some (taker f)
named i [] fs f distinct among = flag_named fs f distinct among
named i (p ∷ ps) fs f distinct among =
    let parts = and_parts (not (list_any (bytes_eq p) (ids ps fs))) (is_distinct (ids ps fs)) distinct in
    let other : bytes_eq p (name_of f) ≡ false = apart p (name_of f) (ids ps fs) (among_ids ps fs (name_of f) (among_flags fs f among)) parts.0 in
    ap (λ (b : Bool). cond b (Some (place_taker i p)) (arg_by_id (takers (suc i) ps fs) (name_of f))) other ∙ named (suc i) ps fs f parts.1 among

-- The rule of a place is found by its name, too.
pub place_named : (i : ℕ) (gone : List Text) (p : Text) (left : List Text) (fs : List Flag) → is_distinct (ids (gone ++ p ∷ left) fs) ≡ true
    → arg_by_id (takers i (gone ++ p ∷ left) fs) p ≡ Some (place_taker (past i gone) p)
place_named i [] p left fs distinct =
    ap (λ (b : Bool). cond b (Some (place_taker i p)) (arg_by_id (takers (suc i) left fs) p)) (same_text p p refl)
place_named i (g ∷ gone) p left fs distinct =
    let parts = and_parts (not (list_any (bytes_eq g) (ids (gone ++ p ∷ left) fs))) (is_distinct (ids (gone ++ p ∷ left) fs)) distinct in
    let other : bytes_eq g p ≡ false = apart g p (ids (gone ++ p ∷ left) fs) (among_places gone p left fs) parts.0 in
    ap (λ (b : Bool). cond b (Some (place_taker i g)) (arg_by_id (takers (suc i) (gone ++ p ∷ left) fs) p)) other ∙ place_named (suc i) gone p left fs parts.1

-- ---- by the name or letter of a flag

-- The rule of the flag, or the rule of the flag for help.
abbrev pub rule_or_help : Option Flag → Bool → Option Rule
rule_or_help (Some f) help = Some (taker f)
rule_or_help None true = Some help_taker
rule_or_help None false = None

one_more : (f : Flag) (b help : Bool) (rest : Option Rule) (found : Option Flag) → rest ≡ rule_or_help found help
    → cond (b || false) (Some (taker f)) rest ≡ rule_or_help (cond b (Some f) found) help
one_more f true help rest found e = refl
one_more f false help rest found e = e

help_last : (help : Bool) → cond (help || false) (Some help_taker) None ≡ rule_or_help None help
help_last true = refl
help_last false = refl

flags_by_long : (fs : List Flag) (name : Text) → arg_by_long (flag_takers fs) name ≡ rule_or_help (find (is_long name) fs) (bytes_eq (codes "help") name)
flags_by_long [] name = help_last (bytes_eq (codes "help") name)
flags_by_long (switch own ∷ fs) name = one_more (switch own) (bytes_eq own name) (bytes_eq (codes "help") name) _ (find (is_long name) fs) (flags_by_long fs name)
flags_by_long (option own ∷ fs) name = one_more (option own) (bytes_eq own name) (bytes_eq (codes "help") name) _ (find (is_long name) fs) (flags_by_long fs name)
flags_by_long (letter own c ∷ fs) name = flags_by_long fs name

flags_by_short : (fs : List Flag) (c : ℕ) → arg_by_short (flag_takers fs) c ≡ rule_or_help (find (is_short c) fs) (104 == c)
flags_by_short [] c = help_last (104 == c)
flags_by_short (switch own ∷ fs) c = flags_by_short fs c
flags_by_short (option own ∷ fs) c = flags_by_short fs c
flags_by_short (letter own x ∷ fs) c = one_more (letter own x) (x == c) (104 == c) _ (find (is_short c) fs) (flags_by_short fs c)

pub by_long : (i : ℕ) (ps : List Text) (fs : List Flag) (name : Text) → arg_by_long (takers i ps fs) name ≡ rule_or_help (find (is_long name) fs) (bytes_eq (codes "help") name)
by_long i [] fs name = flags_by_long fs name
by_long i (p ∷ ps) fs name = by_long (suc i) ps fs name

pub by_short : (i : ℕ) (ps : List Text) (fs : List Flag) (c : ℕ) → arg_by_short (takers i ps fs) c ≡ rule_or_help (find (is_short c) fs) (104 == c)
by_short i [] fs c = flags_by_short fs c
by_short i (p ∷ ps) fs c = by_short (suc i) ps fs c

-- ---- by the number of a place

no_flag_at : (fs : List Flag) (k : ℕ) → arg_by_index (flag_takers fs) k ≡ None
no_flag_at [] k = refl
no_flag_at (switch name ∷ fs) k = no_flag_at fs k
no_flag_at (option name ∷ fs) k = no_flag_at fs k
no_flag_at (letter name c ∷ fs) k = no_flag_at fs k

earlier : (i : ℕ) (gone : List Text) → (i == past (suc i) gone) ≡ false
earlier i gone = let more : suc i ≤ past (suc i) gone = past_more (suc i) gone in ne_eqb i (past (suc i) gone) (λ e. absurd (omega (arith, more, e)))

pub at_place : (i : ℕ) (gone : List Text) (p : Text) (left : List Text) (fs : List Flag)
    → arg_by_index (takers i (gone ++ p ∷ left) fs) (past i gone) ≡ Some (place_taker (past i gone) p)
at_place i [] p left fs = ap (λ (b : Bool). cond b (Some (place_taker i p)) (arg_by_index (takers (suc i) left fs) i)) (eq-eqb i i refl)
at_place i (g ∷ gone) p left fs =
    ap (λ (b : Bool). cond b (Some (place_taker i g)) (arg_by_index (takers (suc i) (gone ++ p ∷ left) fs) (past (suc i) gone))) (earlier i gone)
    ∙ at_place (suc i) gone p left fs

pub no_place : (i : ℕ) (ps : List Text) (fs : List Flag) → arg_by_index (takers i ps fs) (past i ps) ≡ None
no_place i [] fs = no_flag_at fs i
no_place i (p ∷ ps) fs =
    ap (λ (b : Bool). cond b (Some (place_taker i p)) (arg_by_index (takers (suc i) ps fs) (past (suc i) ps))) (earlier i ps)
    ∙ no_place (suc i) ps fs

-- The rule of some place.
pub record IsPlace (rule : Option Rule) : Type 0 where
  pub number : ℕ
  pub name : Text
  pub is : rule ≡ Some (place_taker number name)

pub some_place : (i : ℕ) (ps : List Text) (fs : List Flag) (k : ℕ) → (arg_by_index (takers i ps fs) k ≡ None) ⊎ IsPlace (arg_by_index (takers i ps fs) k)
some_place i [] fs k = inl (no_flag_at fs k)
some_place i (p ∷ ps) fs k = go (i == k) (some_place (suc i) ps fs k)
  where
    go : (b : Bool) → (arg_by_index (takers (suc i) ps fs) k ≡ None) ⊎ IsPlace (arg_by_index (takers (suc i) ps fs) k)
        → (cond b (Some (place_taker i p)) (arg_by_index (takers (suc i) ps fs) k) ≡ None) ⊎ IsPlace (cond b (Some (place_taker i p)) (arg_by_index (takers (suc i) ps fs) k))
    go true rest = inr (record { number = i; name = p; is = refl })
    go false rest = rest

-- ---- defaults

-- If a default value is no fault without rows, it is no fault with any rows.
quiet : (rows : List Row) (a : Rule) → default_fault [] a ≡ [] → default_fault rows a ≡ []
quiet rows a e = go (has_row a.id rows)
  where
    go : (b : Bool) → cond (b || is_empty a.defaults) [] (given_default_fault a a.defaults) ≡ []
    go true = refl
    go false = e

one_quiet : (rows : List Row) (a : Rule) (rest : List Rule) → default_fault [] a ≡ [] → ((more : List Row) → defaults_fault more rest ≡ []) → defaults_fault rows (a ∷ rest) ≡ []
unfolding defaults_fault
one_quiet rows a rest e others = ap (λ (k : Kinds). or_else k (defaults_fault (with_default rows a) rest)) (quiet rows a e) ∙ others (with_default rows a)

none_quiet : (rows : List Row) → defaults_fault rows [] ≡ []
unfolding defaults_fault
none_quiet rows = refl

flag_quiet : (f : Flag) → default_fault [] (taker f) ≡ []
flag_quiet (switch name) = refl
flag_quiet (option name) = refl
flag_quiet (letter name c) = refl

flags_quiet : (fs : List Flag) (rows : List Row) → defaults_fault rows (flag_takers fs) ≡ []
flags_quiet [] rows = one_quiet rows help_taker [] refl none_quiet
flags_quiet (f ∷ fs) rows = one_quiet rows (taker f) (flag_takers fs) (flag_quiet f) (flags_quiet fs)

pub defaults_quiet : (i : ℕ) (ps : List Text) (fs : List Flag) (rows : List Row) → defaults_fault rows (takers i ps fs) ≡ []
defaults_quiet i [] fs rows = flags_quiet fs rows
defaults_quiet i (p ∷ ps) fs rows = one_quiet rows (place_taker i p) (takers (suc i) ps fs) refl (defaults_quiet (suc i) ps fs)

-- ---- required arguments

abbrev pub is_missing : List Row → Rule → Bool
is_missing rows a = a.required && not (is_given a.id rows)

no_flag_missing : (fs : List Flag) (rows : List Row) → list_any (is_missing rows) (flag_takers fs) ≡ false
no_flag_missing [] rows = refl
no_flag_missing (switch name ∷ fs) rows = no_flag_missing fs rows
no_flag_missing (option name ∷ fs) rows = no_flag_missing fs rows
no_flag_missing (letter name c ∷ fs) rows = no_flag_missing fs rows

pub missing : (i : ℕ) (ps : List Text) (fs : List Flag) (rows : List Row) → list_any (is_missing rows) (takers i ps fs) ≡ list_any (λ p. not (is_given p rows)) ps
missing i [] fs rows = no_flag_missing fs rows
missing i (p ∷ ps) fs rows = ap (λ (b : Bool). not (is_given p rows) || b) (missing (suc i) ps fs rows)
