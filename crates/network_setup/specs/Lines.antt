-- What the words of a line say of links, of the room in flight, and of rounds. A malformed line says nothing.
use Rattle.std.specs.Prelude.{ℕ, ◌-◌, ◌==◌, ◌&&◌, List, [], ◌∷◌, drop, length, take, nat_le, nat_lt, Option, None, Some, option_and_then, option_map, unwrap_or, bytes_eq, codes, if◌then◌else◌}
use Rattle.std.specs.List.{slice_split}
use Rattle.std.specs.Option.{option_zip}
use Rattle.medium_core.specs.declared.link.Loss.{Loss}
use Rattle.mote_text.specs.Script.{read_number}
use Rattle.network_setup.specs.SetupView.{SetupView}
use Rattle.medium_core.specs.Links.{is_loss}
use Rattle.network_setup.specs.Shapes.{with_shape}
use Rattle.network_setup.specs.declared.carriage.Carriage.{Carriage}
use Rattle.network_setup.specs.declared.shape.Shape.{Shape}
use Rattle.network_setup.specs.declared.words.Span.{Span}

-- the words of a line, which single spaces part
abbrev pub words_of : List ℕ → List (List ℕ)
words_of line = slice_split (λ byte. byte == 32) line

-- the end of a line, which frames are lost: none, those of `every N`, or those of `lot N seed N`
abbrev pub loss_said : List (List ℕ) → Option Loss
loss_said [] = Some Loss.Never
loss_said (word ∷ number ∷ []) =
    if bytes_eq word (codes "every") then option_map (λ n. Loss.EveryNth n (n - 1)) (read_number number) else None
loss_said (word ∷ chance ∷ label ∷ seed ∷ []) =
    if bytes_eq word (codes "lot") && bytes_eq label (codes "seed")
    then option_map (λ said. Loss.ByLot said.0 said.1) (option_zip (read_number chance) (read_number seed)) else None
loss_said _ = None

-- a delay that is at least 1, and a rule whose numbers are within their bounds
abbrev pub with_loss : Option ℕ → Option Loss → Option Carriage
with_loss (Some delay) (Some loss) = if nat_lt 0 delay && is_loss loss then Some (record { delay = delay; loss = loss }) else None
with_loss _ _ = None

-- `delay N`, and which frames are lost
abbrev pub carriage_said : List (List ℕ) → Option Carriage
carriage_said (word ∷ delay ∷ rule) = if bytes_eq word (codes "delay") then with_loss (read_number delay) (loss_said rule) else None
carriage_said _ = None

-- `room N`, `rounds N`: the number
abbrev pub number_said : List (List ℕ) → Option ℕ
number_said (number ∷ []) = read_number number
number_said _ = None

-- the text before the first of these marks, and the text after it
abbrev pub cut_at : List ℕ → List ℕ → Option (List ℕ × List ℕ)
cut_at mark [] = None
cut_at mark (byte ∷ text) =
    if bytes_eq (take (length mark) (byte ∷ text)) mark then Some ([], drop (length mark) (byte ∷ text))
    else option_map (λ (parts : List ℕ × List ℕ). (byte ∷ parts.0, parts.1)) (cut_at mark text)

-- from a number that is at least 1 to one that is no less
abbrev pub span_of : Option ℕ → Option ℕ → Option Span
span_of (Some first) (Some last) = if nat_le 1 first && nat_le first last then Some (record { first = first; last = last }) else None
span_of _ _ = None

-- `3` or `3..40`
abbrev pub span_said : List ℕ → Option Span
span_said word = let ends = unwrap_or (cut_at (codes "..") word) (word, word) in span_of (read_number ends.0) (read_number ends.1)

-- the numbers of two motes
abbrev pub ends_said : List ℕ → List ℕ → Option Shape
ends_said from to = option_map (λ ends. Shape.Link ends.0 ends.1) (option_zip (read_number from) (read_number to))

-- after `link`: two motes
abbrev pub link_said : List (List ℕ) → Option (Shape × Carriage)
link_said (from ∷ to ∷ rest) = option_zip (ends_said from to) (carriage_said rest)
link_said _ = None

-- after `line`, `ring` or `mesh`: the motes
abbrev pub motes_said : (Span → Shape) → List (List ℕ) → Option (Shape × Carriage)
motes_said shape (motes ∷ rest) = option_zip (option_map shape (span_said motes)) (carriage_said rest)
motes_said shape [] = None

abbrev pub rows_said : List ℕ → List ℕ → List ℕ → Option Shape
rows_said motes word width =
    if bytes_eq word (codes "width") then option_and_then (λ span. option_map (Shape.Grid span) (read_number width)) (span_said motes) else None

-- after `grid`: the motes, `width`, and the number of motes in a row
abbrev pub grid_said : List (List ℕ) → Option (Shape × Carriage)
grid_said (motes ∷ word ∷ width ∷ rest) = option_zip (rows_said motes word width) (carriage_said rest)
grid_said _ = None

-- what a line says of links, by its first word and the other ones
abbrev pub links_said : List ℕ → List (List ℕ) → Option (Shape × Carriage)
links_said word rest =
    if bytes_eq word (codes "link") then link_said rest
    else if bytes_eq word (codes "grid") then grid_said rest
    else if bytes_eq word (codes "line") then motes_said (λ span. Shape.Line span) rest
    else if bytes_eq word (codes "ring") then motes_said (λ span. Shape.Ring span) rest
    else if bytes_eq word (codes "mesh") then motes_said (λ span. Shape.Mesh span) rest
    else None

-- with these links, if they can be set up
abbrev pub with_links : SetupView → Shape × Carriage → Option SetupView
with_links setup said = option_map (λ links. record setup { links = links }) (with_shape said.0 said.1 setup.links)

-- the setup after a line that doesn't say motes. None, where the line is malformed
abbrev pub line_said : List (List ℕ) → SetupView → Option SetupView
line_said [] setup = None
line_said (word ∷ rest) setup =
    if bytes_eq word (codes "room") then option_map (λ room. record setup { room = room }) (number_said rest)
    else if bytes_eq word (codes "rounds") then option_map (λ rounds. record setup { rounds = rounds }) (number_said rest)
    else option_and_then (with_links setup) (links_said word rest)
