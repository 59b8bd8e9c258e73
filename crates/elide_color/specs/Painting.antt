-- Text in colours: ECMA-48, 8.3.117, SGR.
use Rattle.std.specs.Prelude.{Bool, false, true, ℕ, List, ◌++◌, ◌∷◌, Option, None, codes}
use Rattle.elide_color.specs.declared.style.Style.{Style}
use Rattle.elide_color.specs.declared.style.Style.TheVariants.{Address, Bytes, Fault, Mnemonic, Place, Warning}
use Rattle.elide_color.specs.declared.words.Painting.{Painting}
use Rattle.elide_color.specs.declared.words.Painting.TheVariants as words

-- the parameters that select the rendition
abbrev pub rendition : Style → List ℕ
rendition Fault = codes "1;31"
rendition Warning = codes "1;33"
rendition Place = codes "1;34"
rendition Address = codes "36"
rendition Bytes = codes "2"
rendition Mnemonic = codes "1"

-- SELECT GRAPHIC RENDITION with these parameters: CSI, they, and `m`
abbrev pub sequence : List ℕ → List ℕ
sequence parameters = 27 ∷ codes "[" ++ parameters ++ codes "m"

-- what stands before and behind the text
abbrev pub beginning : Style → List ℕ
beginning style = sequence (rendition style)

abbrev pub ending : List ℕ
ending = sequence (codes "0")

abbrev pub painted : Bool → Style → List ℕ → List ℕ
painted false _ text = text
painted true style text = beginning style ++ text ++ ending

-- what a device holds of the text that goes to it: all where nothing is painted, else some more
abbrev pub held : Painting → Option (List ℕ) → Option (List ℕ)
held words.Plain contents = contents
held words.Listing _ = None
held words.Warning _ = None
