-- The element at an index that was read.
use Rattle.std.proofs.Common.{◌≡◌, ℕ, ◌<◌, List, length, get_or, refl, sym, ap, ◌∙◌, Option, None, Some}
use Rattle.std.specs.Prelude.{slice_get, option_copied}
use Rattle.std.specs.Borrow.{Bor}
use Rattle.std.specs.Slice.{IsItemAt}
use Rattle.std.proofs.lemmas.Option.{slice_get_past, slice_get_read}
use Rattle.world.specs.declared.draft.LetterDraft.{LetterDraft}
use Rattle.world.specs.declared.part.Progress.{Progress}
use Rattle.signed.specs.Sending.{draft_in, part_in, signatures}
use Rattle.signed.specs.Signers.{Signature}
use Rattle.signed.proofs.Places.{row_at, row_length, get_or_at}

lent_at : {X : Type 0} (xs : List X) (i : ℕ) (o : Option (Bor X)) → IsItemAt xs i o → option_copied o ≡ slice_get xs i
lent_at xs i None h = sym (slice_get_past xs i h.3)
lent_at xs i (Some b) h = sym (slice_get_read xs (length xs) i b.now refl h.3.0 (h.3.1 b.now))

draft_lent : (o : Option (Bor LetterDraft)) → draft_in o ≡ option_copied o
draft_lent None = refl
draft_lent (Some d) = refl

part_lent : (o : Option (Bor Progress)) → part_in o ≡ option_copied o
part_lent None = refl
part_lent (Some p) = refl

pub draft_at : (ds : List LetterDraft) (g place : ℕ) (o : Option (Bor LetterDraft)) → IsItemAt ds place o → place ≡ g → draft_in o ≡ slice_get ds g
draft_at ds g place o h same = draft_lent o ∙ (lent_at ds place o h ∙ ap (slice_get ds) same)

pub part_at : (ps : List Progress) (g place : ℕ) (o : Option (Bor Progress)) → IsItemAt ps place o → place ≡ g → part_in o ≡ slice_get ps g
part_at ps g place o h same = part_lent o ∙ (lent_at ps place o h ∙ ap (slice_get ps) same)

-- A general's signer is at the index that is his number.
pub signers_count : (n c : ℕ) (signers : List Signature) → signers ≡ signatures n c → length signers ≡ n
signers_count n c signers is = ap length is ∙ row_length (λ g. record { general = g; commander = c }) n

pub signer_at : (n c g place : ℕ) (signers : List Signature) (x : Signature) → signers ≡ signatures n c → place ≡ g → g < n → x ≡ get_or signers place x → x ≡ record { general = g; commander = c }
signer_at n c g place signers x is same inside read =
    read ∙ ((λ i. get_or (is i) (same i) x) ∙ get_or_at (signatures n c) g (record { general = g; commander = c }) x (row_at (λ h. record { general = h; commander = c }) n g inside))
