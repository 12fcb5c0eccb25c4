-- Defines tags and attributes as XML writes them (XML 1.0, productions 39 to 44).
use Rattle.std.specs.Prelude.{ℕ, List, ◌++◌, codes}

abbrev pub attribute : List ℕ → List ℕ → List ℕ
attribute name value = codes " " ++ name ++ codes "=\"" ++ value ++ codes "\""

abbrev pub opening : List ℕ → List ℕ → List ℕ
opening name attributes = codes "<" ++ name ++ attributes ++ codes ">"

abbrev pub closing : List ℕ → List ℕ
closing name = codes "</" ++ name ++ codes ">"

abbrev pub empty : List ℕ → List ℕ → List ℕ
empty name attributes = codes "<" ++ name ++ attributes ++ codes "/>"

abbrev pub element : List ℕ → List ℕ → List ℕ → List ℕ
element name attributes content = opening name attributes ++ content ++ closing name
