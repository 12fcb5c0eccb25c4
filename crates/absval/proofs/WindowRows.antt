-- Windows of accesses.
use Rattle.std.proofs.Common.{◌≡◌, ◌∙◌, ℕ, ℤ, pos, negsuc, ◌+◌, ◌-◌, ◌≤◌, Option, IfSome, refl, sym, ap, arith}
use Rattle.std.specs.Prelude.{◌+ℤ◌, ◌≤ℤ◌, ◌&&◌, nat_le}
use Rattle.std.proofs.lemmas.Int.{ints}
use Rattle.std.proofs.lemmas.Bool.{leb-true, and_parts}
use Rattle.semantics.specs.declared.value.Region.{Region}
use Rattle.semantics.specs.Memory.{window, room_of}
use Rattle.range.proofs.RangeRows.{by_test}
use Rattle.absval.specs.declared.windows.Window.{Window}
use Rattle.absval.specs.Windows.{base_of, LiesIn, between, window_known}
use Rattle.absval.proofs.Inside.{window_lies}

-- Each access at these offsets is in the window.
abbrev pub Lies : Region → ℤ → ℤ → ℤ → ℕ → ℕ → ℕ → Type 0
Lies region low high distance first total size = (o : ℤ) → low ≤ℤ o → o ≤ℤ high → LiesIn first total size (window region (o +ℤ distance) size)

-- The window is in its region and contains each access at these offsets, and it begins and ends where the first and the
-- last of them do.
pub record IsWindow (region : Region) (low high distance : ℤ) (size : ℕ) (w : Window) : Type 0 where
  pub fits : w.place + w.size ≤ room_of region
  pub lies : Lies region low high distance w.place w.size size
  pub least : pos w.place ≡ (low +ℤ distance) +ℤ pos (base_of region)
  pub greatest : pos (w.place + w.size) ≡ ((high +ℤ distance) +ℤ pos (base_of region)) +ℤ pos size

between_is : (region : Region) (low high distance : ℤ) (size : ℕ) (x y : ℤ) → x ≡ (low +ℤ distance) +ℤ pos (base_of region) → y ≡ (high +ℤ distance) +ℤ pos (base_of region) →
    IfSome (between (room_of region) size x y) (IsWindow region low high distance size)
between_is region low high distance size (pos first) (pos last) e f =
    by_test (λ (o : Option Window). IfSome o (IsWindow region low high distance size)) (nat_le first last && nat_le (last + size) (room_of region)) _ _
    (λ t. let parts = and_parts (nat_le first last) (nat_le (last + size) (room_of region)) t in
    let le : first ≤ last = leb-true first last parts.0 in
    let room : last + size ≤ room_of region = leb-true (last + size) (room_of region) parts.1 in
    record {
      fits = omega arith;
      lies = λ o ge to. window_lies region size first last low high o distance e f ge to room;
      least = e;
      greatest = let sum : (last - first) + size + first ≡ last + size = omega arith in let whole : first + ((last - first) + size) ≡ last + size = omega arith in ap pos whole ∙ ap (λ (z : ℤ). z +ℤ pos size) f;
    })
    (λ g. tt)
between_is region low high distance size (pos first) (negsuc n) e f = tt
between_is region low high distance size (negsuc m) (pos last) e f = tt
between_is region low high distance size (negsuc m) (negsuc n) e f = tt

pub window_is : (region : Region) (low high distance : ℤ) (size : ℕ) → IfSome (window_known region low high distance size) (IsWindow region low high distance size)
window_is region low high distance size = between_is region low high distance size _ _ refl refl

-- If there is only one offset, the window is as wide as the access.
pub one_wide : (region : Region) (low high distance : ℤ) (size : ℕ) (w : Window) → IsWindow region low high distance size w → low ≡ high → w.size ≡ size
one_wide region low high distance size w h same =
    let e = h.least in
    let f = h.greatest in
    let g : pos (w.place + w.size) ≡ pos w.place +ℤ pos size = f ∙ ap (λ (z : ℤ). ((z +ℤ distance) +ℤ pos (base_of region)) +ℤ pos size) (sym same) ∙ ap (λ (z : ℤ). z +ℤ pos size) (sym e) in
    omega (arith, ints)
