-- Where the parts of a picture stand, in pixels from the left and from above. No number exceeds 64 bits.
use Rattle.std.specs.Prelude.{ℕ, ◌+◌, ◌-◌, ◌*◌, ◌/◌, ◌^◌, min, max, nat_le, if◌then◌else◌, ◌==◌, Option, Some, None}
use Rattle.pictures.specs.declared.svg.page.Page.{Page}

abbrev pub capped : ℕ → ℕ
capped position = min position (2 ^ 64 - 1)

-- a row has 17 pixels; the first one begins at the page's top
abbrev pub row_top : Page → ℕ → ℕ
row_top page row = capped (page.top + 17 * row)

-- its words stand on a line 12 pixels below
abbrev pub row_base : Page → ℕ → ℕ
row_base page row = capped (page.top + 17 * row + 12)

-- what stays somewhere begins and ends in the middle of a row
abbrev pub row_middle : Page → ℕ → ℕ
row_middle page row = capped (page.top + 17 * row + 8)

-- where the rows end
abbrev pub bottom : Page → ℕ
bottom page = row_top page page.rows

-- what stays to the end, ends there
abbrev pub end_of : Page → Option ℕ → ℕ
end_of page None = bottom page
end_of page (Some row) = row_middle page row

-- the more lanes, the narrower each
abbrev pub lane_width : ℕ → ℕ
lane_width lanes = if nat_le lanes 5 then 64 else if nat_le lanes 9 then 44 else 30

-- the lanes begin at 126, that of process 4 first; this is the middle of a lane
abbrev pub lane_middle : Page → ℕ → ℕ
lane_middle page pid = capped (126 + (pid - 4) * page.lane + page.lane / 2)

-- the words begin 14 pixels after the lanes, and have 420 pixels
abbrev pub words_left : Page → ℕ
words_left page = capped (140 + page.lanes * page.lane)

abbrev pub words_end : Page → ℕ
words_end page = capped (560 + page.lanes * page.lane)

-- memory begins 10 pixels after the words
abbrev pub managed_left : Page → ℕ
managed_left page = capped (570 + page.lanes * page.lane)

-- what comes after a column that begins there: nothing must be left free for a column that there isn't
abbrev pub after_column : ℕ → ℕ → ℕ
after_column left width = if width == 0 then left else capped (left + width + 24)

abbrev pub heap_left : Page → ℕ
heap_left page = after_column (managed_left page) page.columns.managed

-- after the heap's map come the pools' columns, of 80 pixels each
abbrev pub pool_left : Page → ℕ → ℕ
pool_left page others = capped (after_column (heap_left page) page.columns.heap + 104 * others)

-- a page has at least 760 pixels, and 10 after its last part
abbrev pub width_of : Page → ℕ
width_of page = max (capped (pool_left page page.columns.pools + 10)) 760

-- and 30 below its last row
abbrev pub height_of : Page → ℕ
height_of page = capped (bottom page + 30)
