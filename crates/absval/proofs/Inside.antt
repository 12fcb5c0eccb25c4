-- Windows between two indexes.
use Rattle.std.proofs.Common.{◌≡◌, ℕ, ℤ, pos, negsuc, ◌+◌, ◌-◌, ◌≤◌, Bool, sym, subst, arith}
use Rattle.std.specs.Prelude.{◌+ℤ◌, ◌≤ℤ◌, Ok, Err, if◌then◌else◌}
use Rattle.std.proofs.lemmas.Int.{ints}
use Rattle.std.proofs.lemmas.Bool.{le-leb}
use Rattle.semantics.specs.declared.value.Region.{Region}
use Rattle.semantics.specs.declared.value.Region.TheVariants.{Stack, Context}
use Rattle.semantics.specs.State.{OutOfBounds}
use Rattle.semantics.specs.Memory.{inside, window, room_of}
use Rattle.absval.specs.Windows.{base_of, LiesIn}

-- A window of the size at each index from the first to the last is in the region.
pub inside_lies : (room size first last : ℕ) (z : ℤ) → pos first ≤ℤ z → z ≤ℤ pos last → last + size ≤ room → LiesIn first ((last - first) + size) size (inside room size z)
inside_lies room size first last (pos place) low high fits =
    let le : place ≤ last = omega (arith, ints) in
    let ge : first ≤ place = omega (arith, ints) in
    let all : place + size ≤ room = omega arith in
    subst (λ (b : Bool). LiesIn first ((last - first) + size) size (if b then Ok place else Err OutOfBounds)) (sym (le-leb (place + size) room all)) (ge, omega arith)
inside_lies room size first last (negsuc n) low high fits = absurd (omega (arith, ints))

pub window_lies : (region : Region) (size first last : ℕ) (low high o k : ℤ) → pos first ≡ (low +ℤ k) +ℤ pos (base_of region) → pos last ≡ (high +ℤ k) +ℤ pos (base_of region) →
    low ≤ℤ o → o ≤ℤ high → last + size ≤ room_of region → LiesIn first ((last - first) + size) size (window region (o +ℤ k) size)
window_lies Stack size first last low high o k f l ge le fits =
    inside_lies 512 size first last ((o +ℤ k) +ℤ pos 512) (omega (arith, ints)) (omega (arith, ints)) fits
window_lies Context size first last low high o k f l ge le fits =
    inside_lies 4096 size first last (o +ℤ k) (omega (arith, ints)) (omega (arith, ints)) fits
