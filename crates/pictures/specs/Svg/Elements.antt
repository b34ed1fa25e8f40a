-- The elements that a picture has, and what they show when they are pointed at.
use Rattle.std.specs.Prelude.{List, ℕ, [], decimal, length, if◌then◌else◌, ◌==◌}
use Rattle.pictures.specs.declared.svg.markup.names.Attribute.{Attribute}
use Rattle.pictures.specs.declared.svg.markup.names.Tag.{Tag}
use Rattle.pictures.specs.Svg.Parts.{Parts, with_attribute, with_element, with_text}
use Rattle.pictures.specs.declared.svg.page.pen.Area.{Area}
use Rattle.pictures.specs.declared.svg.page.pen.Point.{Point}

-- without attributes, and with nothing inside
abbrev pub empty : Tag → Parts
empty tag = record { tag = tag; named = []; attributes = []; inside = [] }

-- an element `title` with that text inside
abbrev pub title_element : List ℕ → Parts
title_element title = with_text title (empty Tag.Title)

-- an element that shows a title, where that isn't empty
abbrev pub titled : List ℕ → Parts → Parts
titled title element = if length title == 0 then element else with_element (title_element title) element

abbrev pub area_element : List ℕ → Area → Parts
area_element class area =
    with_attribute Attribute.Height (decimal area.height)
    (with_attribute Attribute.Width (decimal area.width)
    (with_attribute Attribute.Top (decimal area.corner.top)
    (with_attribute Attribute.Left (decimal area.corner.left)
    (with_attribute Attribute.Class class (empty Tag.Rect)))))

abbrev pub text_element : Point → Parts
text_element point = with_attribute Attribute.Top (decimal point.top) (with_attribute Attribute.Left (decimal point.left) (empty Tag.Text))

-- with words of a class after what it says, if there are any
abbrev pub with_span : List ℕ → List ℕ → Parts → Parts
with_span class words element =
    if length words == 0 then element else with_element (with_text words (with_attribute Attribute.Class class (empty Tag.Span))) element

abbrev pub line_element : List ℕ → List ℕ → Parts
line_element class commands = with_attribute Attribute.Commands commands (with_attribute Attribute.Class class (empty Tag.Path))

abbrev pub words_element : List ℕ → Point → List ℕ → Parts
words_element class point words = with_text words (with_attribute Attribute.Class class (text_element point))
