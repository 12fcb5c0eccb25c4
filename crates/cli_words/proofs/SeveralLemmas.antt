-- Words that are split one after the other.
use Rattle.std.proofs.Common.{◌≡◌, ◌||◌, suc, Bool, true, false, codes, length, List, [], ◌∷◌, ◌++◌, Bor, Vec, Global, map, append-nil, refl, sym, ap, ◌∙◌}
use Rattle.std.proofs.lemmas.List.{map-append}
use Rattle.std.specs.List.{list_any}
use Rattle.std.specs.Str.{bytes_eq}
use Rattle.cli_words.specs.Asked.{words_of}
use Rattle.cli_words.specs.Several.{Parted, is_flag, is_option, onto, parted, with_file, with_kept}
use Rattle.cli_words.specs.Subcommand.{flag_of}
use Rattle.cli_words.specs.Usage.{Flag, Text}
use Rattle.cli_words.specs.declared.subcommand.Flag as declared

abbrev pub parts : List (Bor Text) → List (Bor Text) → Parted
parts kept files = record { kept = words_of kept; files = words_of files }

-- One more word.
pub words_last : (words : List (Bor Text)) (word : Bor Text) (rest : List Text) → words_of (words ++ word ∷ []) ++ rest ≡ words_of words ++ word.now ∷ rest
words_last [] word rest = refl
words_last (w ∷ words) word rest = ap (λ (all : List Text). w.now ∷ all) (words_last words word rest)

pub kept_last : (kept files : List (Bor Text)) (word : Bor Text) (rest : Parted) → onto (parts (kept ++ word ∷ []) files) rest ≡ onto (parts kept files) (with_kept word.now rest)
kept_last kept files word rest = ap (λ (all : List Text). record { kept = all; files = words_of files ++ rest.files }) (words_last kept word rest.kept)

pub file_last : (kept files : List (Bor Text)) (word : Bor Text) (rest : Parted) → onto (parts kept (files ++ word ∷ [])) rest ≡ onto (parts kept files) (with_file word.now rest)
file_last kept files word rest = ap (λ (all : List Text). record { kept = words_of kept ++ rest.kept; files = all }) (words_last files word rest.files)

-- A test of the words as texts and as references.
pub any_word : (p : Text → Bool) (words : List (Bor Text)) → list_any p (words_of words) ≡ list_any (λ word. p word.now) words
any_word p [] = refl
any_word p (w ∷ words) = ap (λ b. p w.now || b) (any_word p words)

pub any_flag : (p : Flag → Bool) (flags : List declared.Flag) → list_any p (map flag_of flags) ≡ list_any (λ flag. p (flag_of flag)) flags
any_flag p [] = refl
any_flag p (f ∷ flags) = ap (λ b. p (flag_of f) || b) (any_flag p flags)

pub as_many : (words : List (Bor Text)) → length (words_of words) ≡ length words
as_many [] = refl
as_many (w ∷ words) = ap suc (as_many words)

abbrev pub texts : List (Vec (Bor Text) Global) → List (List Text)
texts = map (λ request. words_of request.items)

-- One more request.
pub request_last : (done : List (Vec (Bor Text) Global)) (request : Vec (Bor Text) Global) (rest : List (List Text))
    → texts (done ++ request ∷ []) ++ rest ≡ texts done ++ words_of request.items ∷ rest
request_last [] request rest = refl
request_last (r ∷ done) request rest = ap (λ (all : List (List Text)). words_of r.items ∷ all) (request_last done request rest)

-- The words at the end are files.
pub files_last : (kept files : List (Bor Text)) (words : List (Bor Text)) → onto (parts kept files) (record { kept = []; files = words_of words }) ≡ parts kept (files ++ words)
files_last kept files words =
    ap (λ (all : List Text). record { kept = all; files = words_of files ++ words_of words }) (append-nil (words_of kept))
    ∙ ap (λ (all : List Text). record { kept = words_of kept; files = all }) (sym (map-append (λ (word : Bor Text). word.now) files words))

-- A flag is stored, and its value may be the next word.
pub flag_taken : (flags : List declared.Flag) (kept more files : List (Bor Text)) (word : Bor Text) (is_value next : Bool) (rest : List Text)
    → more ≡ kept ++ word ∷ [] → is_value ≡ false → bytes_eq word.now (codes "--") ≡ false → is_flag word.now ≡ true
    → next ≡ list_any (λ flag. is_option word.now (flag_of flag)) flags
    → onto (parts more files) (parted (map flag_of flags) next rest) ≡ onto (parts kept files) (parted (map flag_of flags) is_value (word.now ∷ rest))
flag_taken flags kept more files word is_value next rest pushed none no_end flag next_is =
    rw (pushed, none, no_end, flag, any_flag (is_option word.now) flags, next_is)
    (kept_last kept files word (parted (map flag_of flags) (list_any (λ flag. is_option word.now (flag_of flag)) flags) rest))
