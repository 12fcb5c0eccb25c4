-- The places that have words by now, and those that have none yet.
use Rattle.std.proofs.Common.{◌≡◌, ◌∙◌, Bool, cond, true, false, not, ◌||◌, List, [], ◌∷◌, ◌++◌, Option, Some, None, ap, append-nil, append_assoc, find, is_some, option_map, refl, subst, sym}
use Rattle.std.proofs.lemmas.Bool.{and_parts, false_from_ne_true, not-true, or_parts}
use Rattle.std.proofs.lemmas.List.Folds.{find-append}
use Rattle.std.proofs.lemmas.Slice.Eq.{bytes_eq-Decides}
use Rattle.std.specs.List.{list_any}
use Rattle.std.specs.Option.{option_or}
use Rattle.std.specs.Prelude.{⊤}
use Rattle.std.specs.Str.{bytes_eq}
use Rattle.clap.specs.Walk.{Text}
use Rattle.cli_words.specs.Usage.{Flag, value_at}
use Rattle.cli_words.proofs.RowLemmas.{Met}
use Rattle.cli_words.proofs.RuleLemmas.{Among, among_flags, among_ids, apart, ids, is_distinct, name_of, same_text}

-- Each place has a word, or none has one.
abbrev pub AllMet : List Text → Met → Type 0
AllMet [] met = ⊤
AllMet (p ∷ ps) met = (is_some (value_at p met) ≡ true) × AllMet ps met

abbrev pub AllFree : List Text → Met → Type 0
AllFree [] met = ⊤
AllFree (p ∷ ps) met = (value_at p met ≡ None) × AllFree ps met

-- No place has this name.
abbrev pub AllApart : Text → List Text → Type 0
AllApart name [] = ⊤
AllApart name (p ∷ ps) = (bytes_eq name p ≡ false) × AllApart name ps

flipped : (x y : Text) → bytes_eq x y ≡ false → bytes_eq y x ≡ false
flipped x y other = false_from_ne_true (bytes_eq y x) (λ same.
    let here : bytes_eq x y ≡ true = same_text x y (sym ((bytes_eq-Decides y x).0 same)) in
    let bad : true ≡ false = sym here ∙ other in cc)

-- A place does not have the name of a later place.
places_apart : (x : Text) (left : List Text) (fs : List Flag) → not (list_any (bytes_eq x) (ids left fs)) ≡ true → AllApart x left
places_apart x [] fs none = tt
places_apart x (p ∷ left) fs none =
    let parts = or_parts (bytes_eq x p) (list_any (bytes_eq x) (ids left fs)) (not-true (bytes_eq x p || list_any (bytes_eq x) (ids left fs)) none) in
    (parts.0, places_apart x left fs (ap not parts.1))

pub place_apart : (gone : List Text) (p : Text) (left : List Text) (fs : List Flag) → is_distinct (ids (gone ++ p ∷ left) fs) ≡ true → AllApart p left
place_apart [] p left fs distinct =
    let parts = and_parts (not (list_any (bytes_eq p) (ids left fs))) (is_distinct (ids left fs)) distinct in
    places_apart p left fs parts.0
place_apart (g ∷ gone) p left fs distinct =
    let parts = and_parts (not (list_any (bytes_eq g) (ids (gone ++ p ∷ left) fs))) (is_distinct (ids (gone ++ p ∷ left) fs)) distinct in
    place_apart gone p left fs parts.1

-- A flag does not have the name of a place.
flag_off : (left : List Text) (fs : List Flag) (f : Flag) → is_distinct (ids left fs) ≡ true → Among f fs → AllApart (name_of f) left
flag_off [] fs f distinct among = tt
flag_off (p ∷ left) fs f distinct among =
    let parts = and_parts (not (list_any (bytes_eq p) (ids left fs))) (is_distinct (ids left fs)) distinct in (
      flipped p (name_of f) (apart p (name_of f) (ids left fs) (among_ids left fs (name_of f) (among_flags fs f among)) parts.0),
      flag_off left fs f parts.1 among,
    )

pub flag_apart : (gone left : List Text) (fs : List Flag) (f : Flag) → is_distinct (ids (gone ++ left) fs) ≡ true → Among f fs → AllApart (name_of f) left
flag_apart [] left fs f distinct among = flag_off left fs f distinct among
flag_apart (g ∷ gone) left fs f distinct among =
    let parts = and_parts (not (list_any (bytes_eq g) (ids (gone ++ left) fs))) (is_distinct (ids (gone ++ left) fs)) distinct in
    flag_apart gone left fs f parts.1 among

-- ---- one more value

module _ (met : Met) (name value : Text) where
  abbrev more : Met
  more = met ++ (name, value) ∷ []

  value_by : (p : Text) → value_at p more ≡ option_map (λ q. q.1) (option_or (find (λ q. bytes_eq q.0 p) met) (cond (bytes_eq name p) (Some (name, value)) None))
  value_by p = ap (option_map (λ q. q.1)) (find-append (λ q. bytes_eq q.0 p) met ((name, value) ∷ []))

  still : (p : Text) → is_some (value_at p met) ≡ true → is_some (value_at p more) ≡ true
  still p was = ap (λ (o : Option Text). is_some o) (value_by p) ∙ go (find (λ q. bytes_eq q.0 p) met) was
    where
      go : (o : Option (Text × Text)) → is_some (option_map (λ q. q.1) o) ≡ true → is_some (option_map (λ q. q.1) (option_or o (cond (bytes_eq name p) (Some (name, value)) None))) ≡ true
      go None was = absurd cc
      go (Some q) was = refl

  still_none : (p : Text) → bytes_eq name p ≡ false → value_at p met ≡ None → value_at p more ≡ None
  still_none p other none = value_by p ∙ ap (λ (b : Bool). option_map (λ q. q.1) (option_or (find (λ q. bytes_eq q.0 p) met) (cond b (Some (name, value)) None))) other ∙ go (find (λ q. bytes_eq q.0 p) met) none
    where
      go : (o : Option (Text × Text)) → option_map (λ q. q.1) o ≡ None → option_map (λ q. q.1) (option_or o None) ≡ None
      go None none = refl
      go (Some q) none = absurd cc

  now_met : is_some (value_at name more) ≡ true
  now_met = ap (λ (o : Option Text). is_some o) (value_by name) ∙ ap (λ (b : Bool). is_some (option_map (λ q. q.1) (option_or (find (λ q. bytes_eq q.0 name) met) (cond b (Some (name, value)) None)))) (same_text name name refl) ∙ go (find (λ q. bytes_eq q.0 name) met)
    where
      go : (o : Option (Text × Text)) → is_some (option_map (λ q. q.1) (option_or o (Some (name, value)))) ≡ true
      go None = refl
      go (Some q) = refl

  pub all_met : (gone : List Text) → AllMet gone met → AllMet gone more
  all_met [] filled = tt
  all_met (p ∷ gone) filled = (still p filled.0, all_met gone filled.1)

  met_last : (gone : List Text) → AllMet gone met → AllMet (gone ++ name ∷ []) more
  met_last [] filled = (now_met, tt)
  met_last (p ∷ gone) filled = (still p filled.0, met_last gone filled.1)

  pub all_free : (left : List Text) → AllApart name left → AllFree left met → AllFree left more
  all_free [] other free = tt
  all_free (p ∷ left) other free = (still_none p other.0 free.0, all_free left other.1 free.1)

-- ---- the places with words, and those without

pub record Places (ps gone left : List Text) (met : Met) : Type 0 where
  pub split : gone ++ left ≡ ps
  pub filled : AllMet gone met
  pub free : AllFree left met

module _ (ps gone left : List Text) (met : Met) (name value : Text) where
  pub places_more : Places ps gone left met → AllApart name left → Places ps gone left (met ++ (name, value) ∷ [])
  places_more places other = record {
    split = places.split;
    filled = all_met met name value gone places.filled;
    free = all_free met name value left other places.free;
  }

  pub places_next : Places ps gone (name ∷ left) met → AllApart name left → Places ps (gone ++ name ∷ []) left (met ++ (name, value) ∷ [])
  places_next places other = record {
    split = append_assoc gone (name ∷ []) left ∙ places.split;
    filled = met_last met name value gone places.filled;
    free = all_free met name value left other places.free.1;
  }

-- ---- the end of the words

abbrev pub lacks_place : Met → Text → Bool
lacks_place met p = not (is_some (value_at p met))

none_lacks : (met : Met) (ps : List Text) → AllMet ps met → list_any (lacks_place met) ps ≡ false
none_lacks met [] filled = refl
none_lacks met (p ∷ ps) filled = ap (λ (b : Bool). not b || list_any (lacks_place met) ps) filled.0 ∙ none_lacks met ps filled.1

one_lacks : (met : Met) (gone : List Text) (p : Text) (left : List Text) → value_at p met ≡ None → list_any (lacks_place met) (gone ++ p ∷ left) ≡ true
one_lacks met [] p left none = ap (λ (o : Option Text). not (is_some o) || list_any (lacks_place met) left) none
one_lacks met (g ∷ gone) p left none = go (one_lacks met gone p left none) (lacks_place met g)
  where
    go : list_any (lacks_place met) (gone ++ p ∷ left) ≡ true → (b : Bool) → (b || list_any (lacks_place met) (gone ++ p ∷ left)) ≡ true
    go rest true = refl
    go rest false = rest

pub whole : (ps gone : List Text) (met : Met) → Places ps gone [] met → list_any (lacks_place met) ps ≡ false
whole ps gone met places = none_lacks met ps (subst (λ (qs : List Text). AllMet qs met) (sym (append-nil gone) ∙ places.split) places.filled)

pub wanting : (ps gone : List Text) (p : Text) (left : List Text) (met : Met) → Places ps gone (p ∷ left) met → list_any (lacks_place met) ps ≡ true
wanting ps gone p left met places =
    subst (λ (qs : List Text). list_any (lacks_place met) qs ≡ true) places.split (one_lacks met gone p left places.free.0)
