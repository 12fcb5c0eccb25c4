-- Rows and texts of an object.
use Rattle.std.proofs.Common.{◌≡◌, ℕ, suc, ◌+◌, List, [], ◌∷◌, ◌++◌, take, map, true, refl, sym, ap, ◌∙◌, subst, inl, inr, add-one, String, string_bytes, codes}
use Rattle.std.specs.Prelude.{Option, Some, decimal}
use Rattle.std.specs.declared.alloc.Global.{Global}
use Rattle.object.specs.declared.header.Header.{Header}
use Rattle.object.specs.declared.registers.LineRow.{LineRow}
use Rattle.object.specs.Rows.{Origins, HasRows, BreaksOff}
use Rattle.object.specs.Names.{is_plain}
use Rattle.object.specs.Tables.{lines_in, origins_in}
use Rattle.std.proofs.lemmas.List.{map-append}
use Rattle.object.specs.Places.{AreRows, told, text_at, texts_of}

pub told_plain : (name : List ℕ) (line : ℕ) (text : List ℕ) → is_plain name ≡ true → text ≡ name →
    told name line ≡ text ++ codes ":" ++ decimal line
told_plain name line text plain same = rw (plain, same) refl

pub are_rows : (object : List ℕ) (section : ℕ) (header : Option Header) (h : Header) (lines bytes : List ℕ) (origins : Origins) (rows : List LineRow) →
    header ≡ Some h → lines ≡ lines_in object → bytes ≡ take h.end lines → origins ≡ origins_in object (take h.end lines) section →
    HasRows h bytes origins rows → AreRows object section header rows
are_rows object section header h lines bytes origins rows e l b o has =
    let by_header : Option Header → Type 0 = λ x. AreRows object section x rows in
    let by_lines : List ℕ → Type 0 = λ x. HasRows h (take h.end x) (origins_in object (take h.end x) section) rows in
    let by_bytes : List ℕ → Type 0 = λ x. HasRows h x origins rows in
    let by_origins : Origins → Type 0 = λ x. HasRows h (take h.end lines) x rows in
    subst by_header (sym e) (inl (subst by_lines l (subst by_origins o (subst by_bytes b has))))

pub no_rows : (object : List ℕ) (section : ℕ) (header : Option Header) (h : Header) (lines bytes : List ℕ) (origins : Origins) (rows : List LineRow) →
    header ≡ Some h → lines ≡ lines_in object → bytes ≡ take h.end lines → origins ≡ origins_in object (take h.end lines) section →
    BreaksOff h bytes origins → rows ≡ [] → AreRows object section header rows
no_rows object section header h lines bytes origins rows e l b o breaks none =
    let by_header : Option Header → Type 0 = λ x. AreRows object section x rows in
    let by_lines : List ℕ → Type 0 = λ x. BreaksOff h (take h.end x) (origins_in object (take h.end x) section) in
    let by_bytes : List ℕ → Type 0 = λ x. BreaksOff h x origins in
    let by_origins : Origins → Type 0 = λ x. BreaksOff h (take h.end lines) x in
    subst by_header (sym e) (inr (subst by_lines l (subst by_origins o (subst by_bytes b breaks)), none))

texts_suc : (names : ℕ → List ℕ) (rows : List LineRow) (start n : ℕ) → texts_of names rows start (suc n) ≡ texts_of names rows start n ++ text_at names rows start n ∷ []
unfolding texts_of
texts_suc names rows start n = refl

pub texts_none : (names : ℕ → List ℕ) (rows : List LineRow) (start : ℕ) (items : List (String Global)) → items ≡ [] →
    map string_bytes items ≡ texts_of names rows start 0
unfolding texts_of
texts_none names rows start items e = ap (map string_bytes) e

-- One more text.
pub texts_pushed : (names : ℕ → List ℕ) (rows : List LineRow) (start n : ℕ) (items items' : List (String Global)) (text : String Global) →
    map string_bytes items ≡ texts_of names rows start n → items' ≡ items ++ text ∷ [] → string_bytes text ≡ text_at names rows start n →
    map string_bytes items' ≡ texts_of names rows start (n + 1)
texts_pushed names rows start n items items' text before more here =
    ap (map string_bytes) more
    ∙ (map-append string_bytes items (text ∷ [])
    ∙ (ap (λ (l : List (List ℕ)). l ++ string_bytes text ∷ []) before
    ∙ (ap (λ (t : List ℕ). texts_of names rows start n ++ t ∷ []) here
    ∙ (sym (texts_suc names rows start n) ∙ ap (texts_of names rows start) (sym (add-one n))))))
