-- Document 01, 'Texts': the figures that the C function writes, eight bytes each, lowest first.
-- Assumes nothing.
use Rattle.std.specs.Prelude.{Bool, List, ℕ, zero, suc, ◌+◌, ◌*◌, ◌/◌, ◌%◌, ◌^◌, set}
use Rattle.model.specs.Calls.{complete_number}

-- the bytes of a figure
abbrev pub figure_bytes : ℕ
figure_bytes = 8

-- the bytes of the four figures
abbrev pub figures_bytes : ℕ
figures_bytes = 32

-- byte i of a number, counted from the lowest
unfoldable pub byte_of : ℕ → ℕ → ℕ
byte_of x i = x / 256 ^ i % 256

-- a buffer after the lowest bytes of a number are written to it from a place on, lowest first
unfoldable pub low_bytes : ℕ → ℕ → ℕ → List ℕ → List ℕ
low_bytes at x zero out = out
low_bytes at x (suc i) out = set (low_bytes at x i out) (at + i) (byte_of x i)

-- a buffer after figure f, counted from 0, is written to it
unfoldable pub with_figure : ℕ → ℕ → List ℕ → List ℕ
with_figure f x out = low_bytes (figure_bytes * f) x figure_bytes out

-- a buffer after volume, tries, floor and complete are written to it; the bytes past them as they were
unfoldable pub with_figures : ℕ → ℕ → ℕ → Bool → List ℕ → List ℕ
with_figures volume tries floor complete out =
    with_figure 3 (complete_number complete) (with_figure 2 floor (with_figure 1 tries (with_figure 0 volume out)))
