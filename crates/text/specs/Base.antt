-- Defines the bases in which numbers are written: ten and sixteen.
use Rattle.std.specs.Prelude.{ℕ}
use Rattle.text.specs.declared.base.Base.{Base}
use Rattle.text.specs.declared.base.Base.TheVariants.{Ten, Sixteen}

-- Returns the radix of a base: 10 for `Ten`, and 16 for `Sixteen`.
abbrev pub radix_of : Base → ℕ
radix_of Ten = 10
radix_of Sixteen = 16
