-- The names that the markup of a picture has.
use Rattle.std.specs.Prelude.{ℕ, List, codes}
use Rattle.pictures.specs.declared.svg.markup.names.Tag.{Tag}
use Rattle.pictures.specs.declared.svg.markup.names.Attribute.{Attribute}

abbrev pub tag_name : Tag → List ℕ
tag_name Tag.Svg = codes "svg"
tag_name Tag.Style = codes "style"
tag_name Tag.Rect = codes "rect"
tag_name Tag.Path = codes "path"
tag_name Tag.Circle = codes "circle"
tag_name Tag.Text = codes "text"
tag_name Tag.Span = codes "tspan"
tag_name Tag.Title = codes "title"

abbrev pub attribute_name : Attribute → List ℕ
attribute_name Attribute.Namespace = codes "xmlns"
attribute_name Attribute.Space = codes "xml:space"
attribute_name Attribute.Width = codes "width"
attribute_name Attribute.Height = codes "height"
attribute_name Attribute.ViewBox = codes "viewBox"
attribute_name Attribute.Class = codes "class"
attribute_name Attribute.Left = codes "x"
attribute_name Attribute.Top = codes "y"
attribute_name Attribute.Commands = codes "d"
attribute_name Attribute.CentreLeft = codes "cx"
attribute_name Attribute.CentreTop = codes "cy"
attribute_name Attribute.Radius = codes "r"
attribute_name Attribute.Fill = codes "fill"
attribute_name Attribute.Stroke = codes "stroke"
attribute_name Attribute.Anchor = codes "text-anchor"
