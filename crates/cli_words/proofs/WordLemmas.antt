-- What `clap` does with one word, by its form.
use Rattle.std.proofs.Common.{◌≡◌, ◌∙◌, ◌⊎◌, inl, inr, Bool, cond, true, false, List, ℕ, [], ◌∷◌, ◌++◌, Option, Some, None, ap, append_assoc, append-nil, codes, refl, sym, length, drop}
use Rattle.std.specs.List.{fold}
use Rattle.std.specs.Option.{option_map_or}
use Rattle.std.specs.Prelude.{slice_get, encode_utf8}
use Rattle.std.specs.Str.{bytes_eq, chars}
use Rattle.clap.specs.Lexer.{long_of, short_of}
use Rattle.clap.specs.Kinds.{Kinds, or_else}
use Rattle.clap.specs.Walk.{Held, Names, Outcome, Row, Rule, Step, Text, Waiting, Walk, after_flag, after_step, arg_by_long, arg_by_short, attached_value, bundle_met, long_met, long_or_other, next, option_met, plain_word, reacted, subcommand_met, takes_values, walked}
use Rattle.clap.specs.Walk as clap
use Rattle.clap.specs.Simple.{Shape}
use Rattle.clap.specs.Faults.{flag_word_fault, flags_fault, long_fault, option_fault, react_fault, short_fault, step_fault, turn_fault, walk_fault}
use Rattle.cli_words.specs.Usage.{Look, end_of_flags, long, look_of, plain, short, short_look}

-- There is some error.
abbrev pub Fails : Kinds → Type 0
Fails kinds = kinds ≡ [] → ⊥

pub or_else-first : (a b : Kinds) → Fails a → Fails (or_else a b)
or_else-first [] b f = absurd (f refl)
or_else-first (k ∷ ks) b f = f

pub or_else-second : (a b : Kinds) → Fails b → Fails (or_else a b)
or_else-second [] b f = f
or_else-second (k ∷ ks) b f = λ e. cc

pub fails_as : {a b : Kinds} → a ≡ b → Fails b → Fails a
fails_as same fails = λ e. fails (sym same ∙ e)

-- ---- the form of a word

-- The word begins with a hyphen and this letter.
pub record IsShort (word : Text) (c : ℕ) (rest : Text) : Type 0 where
  pub flags : Text
  pub short_is : short_of word ≡ Some flags
  pub first : slice_get (chars flags) 0 ≡ Some c
  pub rest_is : drop (length (encode_utf8 c)) flags ≡ rest

-- The word begins with a hyphen, and no character follows it.
pub record IsBare (word : Text) : Type 0 where
  pub flags : Text
  pub short_is : short_of word ≡ Some flags
  pub none : slice_get (chars flags) 0 ≡ None

abbrev pub Looks : Text → Look → Type 0
Looks word end_of_flags = bytes_eq word (codes "--") ≡ true
Looks word (long name value) = (bytes_eq word (codes "--") ≡ false) × (long_of word ≡ Some (name, value))
Looks word (short c rest) = (bytes_eq word (codes "--") ≡ false) × (long_of word ≡ None) × IsShort word c rest
Looks word plain = (bytes_eq word (codes "--") ≡ false) × (long_of word ≡ None) × ((short_of word ≡ None) ⊎ IsBare word)

pub looks : (word : Text) → Looks word (look_of word)
unfolding look_of
looks word = go (bytes_eq word (codes "--")) refl (long_of word) refl (short_of word) refl
  where
    by_letter : (flags : Text) → bytes_eq word (codes "--") ≡ false → long_of word ≡ None → short_of word ≡ Some flags → (x : Option ℕ) → slice_get (chars flags) 0 ≡ x
        → Looks word (option_map_or (λ c. short c (drop (length (encode_utf8 c)) flags)) x plain)
    by_letter flags a b c None e = (a, b, inr (record { flags = flags; short_is = c; none = e }))
    by_letter flags a b c (Some x) e = (a, b, record { flags = flags; short_is = c; first = e; rest_is = refl })

    go : (b : Bool) → bytes_eq word (codes "--") ≡ b → (l : Option (Text × Option Text)) → long_of word ≡ l → (f : Option Text) → short_of word ≡ f
        → Looks word (cond b end_of_flags (option_map_or (λ p. long p.0 p.1) l (option_map_or short_look f plain)))
    go true a l b f c = a
    go false a (Some p) b f c = (a, b)
    go false a None b None c = (a, b, inl c)
    go false a None b (Some flags) c = by_letter flags a b c (slice_get (chars flags) 0) refl

-- ---- the state of `clap` between two words

abbrev pub held : List Row → Option (Text × List Text) → Held
held rows pending = record { rows = rows; pending = pending; skip = 0 }

abbrev pub walk_in : ℕ → Waiting → Held → Walk
walk_in position waiting h = record { held = h; waiting = waiting; position = position; is_trailing = false; stopped = None }

-- The state after `--`.
abbrev pub trailing_in : ℕ → Waiting → Held → Walk
trailing_in position waiting h = record { held = h; waiting = waiting; position = position; is_trailing = true; stopped = None }

nothing_first : slice_get (chars []) 0 ≡ None
unfolding chars
nothing_first = refl

some_first : (x : ℕ) → None ≡ Some x → ⊥
some_first x e = cc

module _ (s : Shape) (names : Names) (position : ℕ) (waiting : Waiting) (rows : List Row) (pending : Option (Text × List Text)) (word : Text) (other : subcommand_met names waiting word ≡ None) where
  abbrev h : Held
  h = held rows pending

  abbrev here : Walk
  here = walk_in position waiting h

  abbrev flag_kinds : Kinds
  flag_kinds = flag_word_fault s.rules s.args_override_self (long_of word) word h

  abbrev flag_made : Held × Step
  flag_made = long_or_other s.rules waiting word (long_of word) h

  -- The word `--`.
  pub dashes_pass : bytes_eq word (codes "--") ≡ true
      → (turn_fault s names here word ≡ []) × (walked s.rules names here word ≡ trailing_in position waiting h)
  unfolding walked
  dashes_pass ends = (rw (other, ends) refl, rw (other, ends) refl)

  -- Another word, by what `clap` does with it as a flag.
  turn_is : bytes_eq word (codes "--") ≡ false → (kinds : Kinds) (made : Held × Step) → flag_kinds ≡ kinds → flag_made ≡ made
      → (turn_fault s names here word ≡ or_else kinds (step_fault s position made.0 made.1)) × (walked s.rules names here word ≡ after_step s.rules word here made.0 made.1)
  unfolding walked
  turn_is ends kinds made faults makes = (rw (other, ends, faults, makes) refl, rw (other, ends, makes) refl)

  flag_fails : bytes_eq word (codes "--") ≡ false → Fails flag_kinds → Fails (turn_fault s names here word)
  flag_fails ends fails = fails_as (turn_is ends flag_kinds flag_made refl refl).0 (or_else-first flag_kinds _ fails)

  -- A flag with its name or its letter.
  module _ (name : Text) (value : Option Text) (looks : Looks word (long name value)) where
    long_kinds : flag_kinds ≡ long_fault s.rules s.args_override_self (arg_by_long s.rules name) value h
    long_kinds = ap (λ (o : Option (Text × Option Text)). flag_word_fault s.rules s.args_override_self o word h) looks.1

    pub long_fails : Fails (long_fault s.rules s.args_override_self (arg_by_long s.rules name) value h) → Fails (turn_fault s names here word)
    long_fails fails = flag_fails looks.0 (fails_as long_kinds fails)

    pub long_turn : (rule : Option Rule) → arg_by_long s.rules name ≡ rule → (kinds : Kinds) (made : Held) (waits : Waiting)
        → long_fault s.rules s.args_override_self rule value h ≡ kinds
        → after_flag s.rules waiting word (long_met s.rules rule value h).0 (long_met s.rules rule value h).1 ≡ (made, next waits)
        → (turn_fault s names here word ≡ or_else kinds []) × (walked s.rules names here word ≡ walk_in position waits made)
    long_turn rule is kinds made waits faults makes = turn_is looks.0 kinds (made, next waits)
        (long_kinds ∙ ap (λ (r : Option Rule). long_fault s.rules s.args_override_self r value h) is ∙ faults)
        (ap (λ (o : Option (Text × Option Text)). long_or_other s.rules waiting word o h) looks.1
        ∙ ap (λ (r : Option Rule). after_flag s.rules waiting word (long_met s.rules r value h).0 (long_met s.rules r value h).1) is ∙ makes)

  module _ (c : ℕ) (rest : Text) (looks : Looks word (short c rest)) where
    letter_kinds : (flags : Text) → slice_get (chars flags) 0 ≡ Some c → drop (length (encode_utf8 c)) flags ≡ rest
        → (rule : Option Rule) → arg_by_short s.rules c ≡ rule → (kinds : Kinds)
        → ((then : Held → Kinds) → short_fault s.rules s.args_override_self rule rest h then ≡ kinds)
        → flags_fault s.rules s.args_override_self (length flags) flags 0 h ≡ kinds
    unfolding flags_fault
    letter_kinds [] first behind rule is kinds faults = absurd (some_first c (sym nothing_first ∙ first))
    letter_kinds (x ∷ xs) first behind rule is kinds faults = rw (first, behind, is) (faults _)

    letter_fails : (flags : Text) → slice_get (chars flags) 0 ≡ Some c → drop (length (encode_utf8 c)) flags ≡ rest
        → (rule : Option Rule) → arg_by_short s.rules c ≡ rule
        → ((then : Held → Kinds) → Fails (short_fault s.rules s.args_override_self rule rest h then))
        → Fails (flags_fault s.rules s.args_override_self (length flags) flags 0 h)
    unfolding flags_fault
    letter_fails [] first behind rule is fails = absurd (some_first c (sym nothing_first ∙ first))
    letter_fails (x ∷ xs) first behind rule is fails = rw (first, behind, is) (fails _)

    letter_met : (flags : Text) → slice_get (chars flags) 0 ≡ Some c → drop (length (encode_utf8 c)) flags ≡ rest
        → (a : Rule) → arg_by_short s.rules c ≡ Some a → takes_values a ≡ true
        → bundle_met s.rules (length flags) flags 0 clap.plain h ≡ option_met s.rules a (attached_value rest) h
    unfolding bundle_met
    letter_met [] first behind a is takes = absurd (some_first c (sym nothing_first ∙ first))
    letter_met (x ∷ xs) first behind a is takes = rw (first, behind, is, takes) refl

    short_kinds : flag_kinds ≡ flags_fault s.rules s.args_override_self (length looks.2.flags) looks.2.flags 0 h
    short_kinds = ap (λ (o : Option (Text × Option Text)). flag_word_fault s.rules s.args_override_self o word h) looks.1
        ∙ ap (λ (o : Option Text). option_map_or (λ flags. flags_fault s.rules s.args_override_self (length flags) flags 0 h) o []) looks.2.short_is

    pub short_fails : (rule : Option Rule) → arg_by_short s.rules c ≡ rule
        → ((then : Held → Kinds) → Fails (short_fault s.rules s.args_override_self rule rest h then)) → Fails (turn_fault s names here word)
    short_fails rule is fails = flag_fails looks.0 (fails_as short_kinds (letter_fails looks.2.flags looks.2.first looks.2.rest_is rule is fails))

    option_kinds : (a : Rule) → takes_values a ≡ true → (then : Held → Kinds)
        → short_fault s.rules s.args_override_self (Some a) rest h then ≡ option_fault s.rules s.args_override_self a (attached_value rest) h
    option_kinds a takes then = ap (λ (b : Bool). cond b (option_fault s.rules s.args_override_self a (attached_value rest) h)
        (or_else (react_fault s.rules s.args_override_self a [] h) (then (reacted s.rules a [] h)))) takes

    pub short_turn : (a : Rule) → arg_by_short s.rules c ≡ Some a → takes_values a ≡ true → (kinds : Kinds) (made : Held) (waits : Waiting)
        → option_fault s.rules s.args_override_self a (attached_value rest) h ≡ kinds
        → after_flag s.rules waiting word (option_met s.rules a (attached_value rest) h).0 (option_met s.rules a (attached_value rest) h).1 ≡ (made, next waits)
        → (turn_fault s names here word ≡ or_else kinds []) × (walked s.rules names here word ≡ walk_in position waits made)
    short_turn a is takes kinds made waits faults makes = turn_is looks.0 kinds (made, next waits)
        (short_kinds ∙ letter_kinds looks.2.flags looks.2.first looks.2.rest_is (Some a) is kinds (λ then. option_kinds a takes then ∙ faults))
        (ap (λ (o : Option (Text × Option Text)). long_or_other s.rules waiting word o h) looks.1
        ∙ ap (λ (o : Option Text). clap.short_or_plain s.rules waiting word o h) looks.2.short_is
        ∙ ap (λ (m : Held × Outcome). after_flag s.rules waiting word m.0 m.1) (letter_met looks.2.flags looks.2.first looks.2.rest_is a is takes)
        ∙ makes)

  -- A word that is no flag is a pending option's value or the word for the next place.
  bare_kinds : (flags : Text) → slice_get (chars flags) 0 ≡ None → flags_fault s.rules s.args_override_self (length flags) flags 0 h ≡ []
  unfolding flags_fault
  bare_kinds [] none = refl
  bare_kinds (x ∷ xs) none = rw none refl

  bare_met : (flags : Text) → slice_get (chars flags) 0 ≡ None → bundle_met s.rules (length flags) flags 0 clap.plain h ≡ (h, clap.plain)
  unfolding bundle_met
  bare_met [] none = refl
  bare_met (x ∷ xs) none = rw none refl

  pub plain_turn : Looks word plain → (turn_fault s names here word ≡ step_fault s position (plain_word s.rules waiting word h).0 (plain_word s.rules waiting word h).1)
      × (walked s.rules names here word ≡ after_step s.rules word here (plain_word s.rules waiting word h).0 (plain_word s.rules waiting word h).1)
  plain_turn looks = turn_is looks.0 [] (plain_word s.rules waiting word h)
      (ap (λ (o : Option (Text × Option Text)). flag_word_fault s.rules s.args_override_self o word h) looks.1 ∙ kinds looks.2)
      (ap (λ (o : Option (Text × Option Text)). long_or_other s.rules waiting word o h) looks.1 ∙ made looks.2)
    where
      kinds : (short_of word ≡ None) ⊎ IsBare word → flag_word_fault s.rules s.args_override_self None word h ≡ []
      kinds bare = elim bare [
        | inl none ↦ ap (λ (o : Option Text). option_map_or (λ flags. flags_fault s.rules s.args_override_self (length flags) flags 0 h) o []) none
        | inr is ↦ ap (λ (o : Option Text). option_map_or (λ flags. flags_fault s.rules s.args_override_self (length flags) flags 0 h) o []) is.short_is ∙ bare_kinds is.flags is.none
      ]

      made : (short_of word ≡ None) ⊎ IsBare word → long_or_other s.rules waiting word None h ≡ plain_word s.rules waiting word h
      made bare = elim bare [
        | inl none ↦ ap (λ (o : Option Text). clap.short_or_plain s.rules waiting word o h) none
        | inr is ↦ ap (λ (o : Option Text). clap.short_or_plain s.rules waiting word o h) is.short_is
            ∙ ap (λ (m : Held × Outcome). after_flag s.rules waiting word m.0 m.1) (bare_met is.flags is.none)
      ]

-- ---- several words

-- `clap` fails at several words if it fails at one of them.
pub turn_fails : (s : Shape) (names : Names) (w : Walk) (word : Text) (rest : List Text)
    → Fails (turn_fault s names w word) → Fails (walk_fault s names w (word ∷ rest))
unfolding walk_fault
turn_fails s names w word rest fails = or_else-first _ _ fails

-- The words after the name of a subcommand are its own.
pub fold_stopped : (c : List Rule) (names : Names) (w : Walk) (name : Text) (before words : List Text)
    → fold (walked c names) (record w { stopped = Some (name, before) }) words
    ≡ record w { stopped = Some (name, before ++ words) }
unfolding walked
fold_stopped c names w name before [] = ap (λ (ws : List Text). record w { stopped = Some (name, ws) }) (sym (append-nil before))
fold_stopped c names w name before (word ∷ words) =
    fold_stopped c names w name (before ++ word ∷ []) words
    ∙ ap (λ (ws : List Text). record w { stopped = Some (name, ws) }) (append_assoc before (word ∷ []) words)
