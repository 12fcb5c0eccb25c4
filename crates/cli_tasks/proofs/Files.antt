-- Lemmas about reading the files that a scenario names, one after the other.
use Rattle.std.proofs.Common.{◌≡◌, ◌∙◌, ℕ, ◌+◌, ◌<◌, List, [], ◌∷◌, ◌++◌, length, get_or, take, drop, sym, ap, string_bytes, subst}
use Rattle.std.specs.Prelude.{IfSome, Option, None, Some}
use Rattle.std.specs.List.{AllZip}
use Rattle.std.proofs.lemmas.List.{drop_more, take-append-drop, take_more}
use Rattle.std.proofs.lemmas.Slice.Zip.{all_zipped_more}
use Rattle.std.specs.declared.io.ErrorKind.{ErrorKind}
use Rattle.streams.specs.Names.{shown}
use Rattle.scenario.specs.declared.reference_key.ReferenceKey.{ReferenceKey}
use Rattle.scenario.specs.Asking.{Asked}
use Rattle.scenario.specs.ReferenceNames.{File}
use Rattle.cli_tasks.specs.Taken.{AreBytes, IsBeside, IsFaultOf, IsFile, IsNamed, IsTextOf, IsUnread, IsUntaken, IsUntakenIn, IsUntakenOf, function_in}
use Rattle.cli_tasks.specs.declared.named_files.FileProblem.{FileProblem}
use Rattle.cli_tasks.specs.declared.named_files.FileProblem.TheVariants.{Told, Memory}

-- A loaded file with the key, the name and the text that the scenario asks for is what `IsFile` states.
pub beside_so : (a : Asked) (f : File) (key : ReferenceKey) (name text bytes : List ℕ) (function : Option (List ℕ)) → a.key ≡ key → name ≡ a.name → function ≡ function_in key a.function → IsTextOf key a.function bytes text
    → f ≡ record { key = key; name = name; function = function; text = text } → IsFile a bytes f
beside_so a f key name text bytes function keyed named of is f_is = record {
  key = ap (λ (x : File). x.key) f_is ∙ sym keyed;
  name = ap (λ (x : File). x.name) f_is ∙ named;
  function = ap (λ (x : File). x.function) f_is ∙ (of ∙ ap (λ (k : ReferenceKey). function_in k a.function) (sym keyed));
  text = subst (λ (x : File). IsTextOf a.key a.function bytes x.text) (sym f_is) (subst (λ (k : ReferenceKey). IsTextOf k a.function bytes text) (sym keyed) is);
}

-- If the first files are loaded and one more is, one more of the named files is loaded.
pub files_on : (known : List ℕ → Option (List ℕ)) (asked : List Asked) (i : ℕ) (a : Asked) (files more : List File) (f : File) → i < length asked → a ≡ get_or asked i a → AllZip (IsBeside known) (take i asked) files → IsBeside known a f
    → more ≡ files ++ f ∷ [] → AllZip (IsBeside known) (take (i + 1) asked) more
files_on known asked i a files more f l ea h b e =
    let longer : take (i + 1) asked ≡ take i asked ++ a ∷ [] = take_more asked i a l ∙ ap (λ z. take i asked ++ z ∷ []) (sym ea) in
    rw (longer, e) (all_zipped_more (IsBeside known) (take i asked) files a f h b)

-- If the first files are loaded and the next one cannot be used, its problem is that of the whole list.
pub untaken_of : (known : List ℕ → Option (List ℕ)) (fails : List ℕ → ErrorKind → Type 0) (asked : List Asked) (i : ℕ) (a : Asked) (files : List File) (e : FileProblem) → i < length asked → a ≡ get_or asked i a
    → AllZip (IsBeside known) (take i asked) files → IsUntakenOf known fails a e → IsUntaken known fails asked e
untaken_of known fails asked i a files (Told lines kind) l ea taken h =
    let rest : drop i asked ≡ a ∷ drop (i + 1) asked = drop_more asked i a l ∙ ap (λ x. x ∷ drop (i + 1) asked) (sym ea) in
    (take i asked, a, drop (i + 1) asked, files, sym (take-append-drop i asked) ∙ ap (λ z. take i asked ++ z) rest, taken, h)
untaken_of known fails asked i a files Memory l ea taken h = tt

-- A named file cannot be used because of its bytes, or because reading it failed.
pub untaken_in : (known : List ℕ → Option (List ℕ)) (fails : List ℕ → ErrorKind → Type 0) (a : Asked) (bytes : List ℕ) (e : FileProblem) → AreBytes known a.name bytes → IsUntakenIn a bytes e → IsUntakenOf known fails a e
untaken_in known fails a bytes (Told lines kind) own h = subst (λ (k : Option ErrorKind). IsFaultOf known fails a (string_bytes lines) k) (sym h.0) (bytes, own, h.1)
untaken_in known fails a bytes Memory own h = tt

pub unread_so : (known : List ℕ → Option (List ℕ)) (fails : List ℕ → ErrorKind → Type 0) (a : Asked) (failed : ErrorKind) (e : FileProblem) → fails a.name failed → IsUnread a failed e → IsUntakenOf known fails a e
unread_so known fails a failed (Told lines kind) f h = subst (λ (k : Option ErrorKind). IsFaultOf known fails a (string_bytes lines) k) (sym h.0) (f, h.1)
unread_so known fails a failed Memory f h = tt

-- The lines with the file's name as it is printed are what `IsNamed` states.
pub named_so : (a : Asked) (own text : List ℕ) (lines : List ℕ → List ℕ) → IfSome (shown a.name) (λ n. own ≡ n) → text ≡ lines own → IsNamed a lines text
named_so a own text lines h e = by (shown a.name) h
  where
    by : (o : Option (List ℕ)) → IfSome o (λ n. own ≡ n) → IfSome o (λ n. text ≡ lines n)
    by None h = tt
    by (Some n) h = e ∙ ap lines h
