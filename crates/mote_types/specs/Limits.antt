-- Numbers with a meaning: process numbers and limits. Definitions take them from here, never from the code.
use Rattle.std.specs.Prelude.{ℕ, ◌^◌}

abbrev pub etimer_process : ℕ
etimer_process = 0

abbrev pub ctimer_process : ℕ
ctimer_process = 1

abbrev pub serial_line_process : ℕ
serial_line_process = 2

-- its managed blocks hold the frames
abbrev pub packet_process : ℕ
packet_process = 3

abbrev pub first_application : ℕ
first_application = 4

abbrev pub last_application : ℕ
last_application = 19

abbrev pub most_applications : ℕ
most_applications = 16

abbrev pub event_codes : ℕ
event_codes = 256

abbrev pub queue_places : ℕ
queue_places = 32

-- the managed blocks of a process, its heap blocks, and the blocks of a pool
abbrev pub blocks_each : ℕ
blocks_each = 16

abbrev pub last_block : ℕ
last_block = 15

-- the managed blocks of process 3 and of all applications
abbrev pub all_blocks : ℕ
all_blocks = 272

abbrev pub last_pool : ℕ
last_pool = 3

abbrev pub timers_each : ℕ
timers_each = 8

abbrev pub callback_timers_each : ℕ
callback_timers_each = 4

abbrev pub last_deadline : ℕ
last_deadline = 2 ^ 63

-- the most frames that are held, and the most bytes of one
abbrev pub held_frames : ℕ
held_frames = 8

abbrev pub frame_limit : ℕ
frame_limit = 127

-- the most bytes in the ring of the serial line, in a line, and in one input
abbrev pub ring_places : ℕ
ring_places = 127

abbrev pub line_bytes : ℕ
line_bytes = 127

abbrev pub serial_limit : ℕ
serial_limit = 256

-- the most bytes that one call reads
abbrev pub chunk_limit : ℕ
chunk_limit = 64

abbrev pub region_limit : ℕ
region_limit = 65536
