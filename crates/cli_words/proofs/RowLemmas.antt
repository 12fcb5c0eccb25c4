-- The rows in which `clap` keeps the parsed values, by their names.
use Rattle.std.proofs.Common.{◌≡◌, ◌∙◌, ◌++◌, ◌||◌, Bool, cond, true, false, List, [], ◌∷◌, Option, Some, None, ap, find, fold, refl, sym, is_some, option_map, append-nil, subst₂}
use Rattle.std.proofs.lemmas.List.Folds.{find-append}
use Rattle.std.specs.Option.{option_map_or, option_or}
use Rattle.std.specs.Prelude.{⊤, slice_get}
use Rattle.std.specs.Str.{bytes_eq}
use Rattle.clap.specs.Walk.{Row, Rule, Text, at_row, default_rows, has_row, more_values, reading_by, with_default, with_values, without}
use Rattle.clap.specs.Takes as takes
use Rattle.clap.specs.Facts.{explicit_source}
use Rattle.clap.specs.declared.builder.value_parser.Reading.{Reading}
use Rattle.clap.specs.declared.parser.matches.ValueSource.{ValueSource}
use Rattle.clap.specs.declared.parser.matches.ValueSource.TheVariants.{CommandLine, DefaultValue}
use Rattle.cli_words.specs.Lab.{given, given_value, is_given}
use Rattle.cli_words.specs.Usage.{value_at}

abbrev pub found : Text → List Row → Option Row
found id rows = find (λ r. bytes_eq r.id id) rows

pub has_is : (id : Text) (rows : List Row) → has_row id rows ≡ is_some (found id rows)
has_is id [] = refl
has_is id (r ∷ rows) = go (has_is id rows) (bytes_eq r.id id)
  where
    go : has_row id rows ≡ is_some (found id rows) → (b : Bool) → (b || has_row id rows) ≡ is_some (cond b (Some r) (found id rows))
    go rest true = refl
    go rest false = rest

-- A change at a name without a row adds a row.
at_new : (id : Text) (change : Row → List Row) (new rows : List Row) → found id rows ≡ None → at_row id change new rows ≡ rows ++ new
at_new id change new [] none = refl
at_new id change new (r ∷ rows) none = go (at_new id change new rows) (bytes_eq r.id id) none
  where
    go : (found id rows ≡ None → at_row id change new rows ≡ rows ++ new) → (b : Bool) → cond b (Some r) (found id rows) ≡ None
        → cond b (change r ++ rows) (r ∷ at_row id change new rows) ≡ r ∷ (rows ++ new)
    go rest true e = absurd cc
    go rest false e = ap (λ (rs : List Row). r ∷ rs) (rest e)

abbrev pub row_with : Text → Reading → ValueSource → List Text → Row
row_with id how source values = record { id = id; values = values; count = None; source = Some source; reading = how }

pub added : (id : Text) (how : Reading) (source : ValueSource) (values : List Text) (rows : List Row) → found id rows ≡ None
    → with_values id how source values rows ≡ rows ++ row_with id how source values ∷ []
added id how source values rows none = at_new id (more_values source values) (row_with id how source values ∷ []) rows none

-- The first use of an argument adds its row.
pub first_use : (id : Text) (how : Reading) (values : List Text) (rows : List Row) → found id rows ≡ None
    → with_values id how CommandLine values (without id rows) ≡ rows ++ row_with id how CommandLine values ∷ []
first_use id how values rows none =
    ap (λ (rs : List Row). with_values id how CommandLine values rs) (at_new id (λ _. []) [] rows none ∙ append-nil rows)
    ∙ added id how CommandLine values rows none

-- ---- the rows have the parsed values

abbrev pub Met : Type 0
Met = List (Text × Text)

-- The row has this value, which comes from the words.
abbrev pub Shows : Option Text → Option Row → Type 0
Shows None None = ⊤
Shows None (Some r) = ⊥
Shows (Some value) None = ⊥
Shows (Some value) (Some r) = (r.source ≡ Some CommandLine) × (r.values ≡ value ∷ [])

abbrev pub Stands : List Row → Met → Type 0
Stands rows met = (name : Text) → Shows (value_at name met) (found name rows)

pub stands_more : (rows : List Row) (met : Met) (how : Reading) (name value : Text) → Stands rows met
    → Stands (rows ++ row_with name how CommandLine (value ∷ []) ∷ []) (met ++ (name, value) ∷ [])
stands_more rows met how name value stands other =
    subst₂ (λ (v : Option Text) (r : Option Row). Shows v r)
    (sym (ap (option_map (λ p. p.1)) (find-append (λ p. bytes_eq p.0 other) met ((name, value) ∷ []))))
    (sym (find-append (λ r. bytes_eq r.id other) rows (row_with name how CommandLine (value ∷ []) ∷ [])))
    (go (find (λ p. bytes_eq p.0 other) met) (found other rows) (bytes_eq name other) (stands other))
  where
    go : (v : Option (Text × Text)) (r : Option Row) (b : Bool) → Shows (option_map (λ p. p.1) v) r
        → Shows (option_map (λ p. p.1) (option_or v (cond b (Some (name, value)) None))) (option_or r (cond b (Some (row_with name how CommandLine (value ∷ []))) None))
    go None None true shows = (refl, refl)
    go None None false shows = tt
    go None (Some r) b shows = absurd shows
    go (Some v) None b shows = absurd shows
    go (Some v) (Some r) b shows = shows

not_shown : (v : Option Text) (r : Option Row) → Shows v r → v ≡ None → r ≡ None
not_shown None None shows e = refl
not_shown None (Some r) shows e = absurd shows
not_shown (Some v) r shows e = absurd cc

pub lacks : (rows : List Row) (met : Met) → Stands rows met → (name : Text) → value_at name met ≡ None → found name rows ≡ None
lacks rows met stands name none = not_shown (value_at name met) (found name rows) (stands name) none

shown : (v : Option Text) (r : Option Row) → Shows v r → is_some r ≡ is_some v
shown None None shows = refl
shown None (Some r) shows = absurd shows
shown (Some v) None shows = absurd shows
shown (Some v) (Some r) shows = refl

pub row_stands : (rows : List Row) (met : Met) → Stands rows met → (name : Text) → has_row name rows ≡ is_some (value_at name met)
row_stands rows met stands name = has_is name rows ∙ shown (value_at name met) (found name rows) (stands name)

-- ---- the values from the words, without defaults and with them

abbrev seen : {X : Type 0} → (Row → X) → X → Text → List Row → X
seen f d id rows = option_map_or f (found id rows) d

module _ {X : Type 0} (f : Row → X) (d : X) (passed_over : (r : Row) → r.source ≡ Some DefaultValue → f r ≡ d) (id : Text) where
  default_row : (rows : List Row) (own : Text) (how : Reading) (values : List Text) → found own rows ≡ None
      → seen f d id (default_rows own how values rows) ≡ seen f d id rows
  default_row rows own how [] none = refl
  default_row rows own how (v ∷ vs) none =
      ap (seen f d id) (added own how DefaultValue (v ∷ vs) rows none)
      ∙ ap (λ (o : Option Row). option_map_or f o d) (find-append (λ r. bytes_eq r.id id) rows (row_with own how DefaultValue (v ∷ vs) ∷ []))
      ∙ go (found id rows) (bytes_eq own id)
    where
      go : (o : Option Row) (b : Bool) → option_map_or f (option_or o (cond b (Some (row_with own how DefaultValue (v ∷ vs))) None)) d ≡ option_map_or f o d
      go None true = passed_over (row_with own how DefaultValue (v ∷ vs)) refl
      go None false = refl
      go (Some r) b = refl

  one_default : (rows : List Row) (a : Rule) → seen f d id (with_default rows a) ≡ seen f d id rows
  one_default rows a = go (has_row a.id rows) refl
    where
      none : (o : Option Row) → is_some o ≡ false → o ≡ None
      none None e = refl
      none (Some r) e = absurd cc

      go : (b : Bool) → has_row a.id rows ≡ b → seen f d id (cond b rows (default_rows a.id (reading_by a) a.defaults rows)) ≡ seen f d id rows
      go true is = refl
      go false is = default_row rows a.id (reading_by a) a.defaults (none (found a.id rows) (sym (has_is a.id rows) ∙ is))

  pub defaults_kept : (rules : List Rule) (rows : List Row) → seen f d id (fold with_default rows rules) ≡ seen f d id rows
  defaults_kept [] rows = refl
  defaults_kept (a ∷ rules) rows = defaults_kept rules (with_default rows a) ∙ one_default rows a

default_not_given : (r : Row) → r.source ≡ Some DefaultValue → given_value r ≡ None
default_not_given r e = ap (λ (s : Option ValueSource). cond (is_given s) (slice_get r.values 0) None) e

default_not_explicit : (r : Row) → r.source ≡ Some DefaultValue → explicit_source r.source ≡ false
default_not_explicit r e = ap explicit_source e

given_is : (v : Option Text) (r : Option Row) → Shows v r → option_map_or given_value r None ≡ v
given_is None None shows = refl
given_is None (Some r) shows = absurd shows
given_is (Some v) None shows = absurd shows
given_is (Some v) (Some r) shows = λ i. cond (is_given (shows.0 i)) (slice_get (shows.1 i) 0) None

explicit_is : (v : Option Text) (r : Option Row) → Shows v r → option_map_or (λ r. explicit_source r.source) r false ≡ is_some v
explicit_is None None shows = refl
explicit_is None (Some r) shows = absurd shows
explicit_is (Some v) None shows = absurd shows
explicit_is (Some v) (Some r) shows = ap explicit_source shows.0

module _ (rules : List Rule) (rows : List Row) (met : Met) (stands : Stands rows met) (name : Text) where
  pub given_stands : given name (fold with_default rows rules) ≡ value_at name met
  given_stands = defaults_kept given_value None default_not_given name rules rows ∙ given_is (value_at name met) (found name rows) (stands name)

  pub explicit_stands : takes.is_given name (fold with_default rows rules) ≡ is_some (value_at name met)
  explicit_stands = defaults_kept (λ r. explicit_source r.source) false default_not_explicit name rules rows ∙ explicit_is (value_at name met) (found name rows) (stands name)
