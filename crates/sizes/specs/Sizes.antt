-- Widths, columns, trees, and the length of every byte range that a step is lent. Paper 01, 'Words and layouts' and 'Steps and their
-- turning away'; of a batch on file, paper 02, notes 1, 3 and 4. Assumes nothing.
use Rattle.std.specs.Prelude.{Bool, cond, ◌||◌, ℕ, ◌+◌, ◌-◌, ◌*◌, ◌/◌, eqb}

-- width k is 1, 2, 4 or 8
unfoldable pub width_allowed : (k : ℕ) → Bool
width_allowed k = eqb k 1 || (eqb k 2 || (eqb k 4 || eqb k 8))

-- a table has 128 columns, each with a base transfer of its own; there are n = 128/k trees
abbrev pub columns : ℕ
columns = 128

abbrev pub trees_of : (k : ℕ) → ℕ
trees_of k = columns / k

-- ---- the setups

-- the secret D (delta), a bit for each column: 16
abbrev pub delta_length : ℕ
delta_length = columns / 8

-- roots, a node for each tree: 32 × n
abbrev pub roots_length : (k : ℕ) → ℕ
roots_length k = 32 * trees_of k

-- base pads: the receiver has both of each base transfer, 8,192, the sender one, 4,096
abbrev pub receiver_base_pads_length : ℕ
receiver_base_pads_length = 64 * columns

abbrev pub sender_base_pads_length : ℕ
sender_base_pads_length = 32 * columns

-- the setup message, two masked totals for each base transfer: 8,192
abbrev pub setup_message_length : ℕ
setup_message_length = 64 * columns

-- the kept table (siblings), a node for each base transfer: 4,096
abbrev pub siblings_length : ℕ
siblings_length = 32 * columns

-- ---- a batch

-- a batch has P blocks, and one more that is spent on the check: a column has L = 8 × (P+1) bytes, and u_0 (choices) is one
abbrev pub column_length : (blocks : ℕ) → ℕ
column_length blocks = 8 * (blocks + 1)

-- V and W, the tables: 128 × L
abbrev pub table_length : (blocks : ℕ) → ℕ
table_length blocks = columns * column_length blocks

-- the correction: (n - 1) × L
abbrev pub correction_length : (k blocks : ℕ) → ℕ
correction_length k blocks = (trees_of k - 1) * column_length blocks

-- the check message, the fold of u_0 and of each column, 8 bytes each: 1,032
abbrev pub check_message_length : ℕ
check_message_length = 8 * (1 + columns)

-- a block has 64 transfers. A pad has 32 bytes: the receiver has one for each transfer, 2,048 × P, the sender two, 4,096 × P
abbrev pub transfers : (blocks : ℕ) → ℕ
transfers blocks = 64 * blocks

abbrev pub receiver_pads_length : (blocks : ℕ) → ℕ
receiver_pads_length blocks = 32 * transfers blocks

abbrev pub sender_pads_length : (blocks : ℕ) → ℕ
sender_pads_length blocks = 64 * transfers blocks

-- ---- a batch on file

-- the contents: a 4-byte count, then per entry kind, offset and length, 4 bytes each
abbrev pub contents_length : (count : ℕ) → ℕ
contents_length count = 4 + 12 * count

-- the head: width 1 byte, blocks 1, batch 8; a short head, which is still read, has the batch in 4
abbrev pub head_length : ℕ
head_length = 10

abbrev pub short_head_length : ℕ
short_head_length = 6

-- the key, a 64-bit number
abbrev pub key_length : ℕ
key_length = 8

-- four entries, or five with a setup; one of no bytes means none
abbrev pub entries_with : (setup : ℕ) → ℕ
entries_with setup = cond (eqb setup 0) 4 5

-- a file that is written: the contents, the setup, the head, the correction, the key and the check message
abbrev pub file_length : (k blocks setup : ℕ) → ℕ
file_length k blocks setup =
    contents_length (entries_with setup) + (setup + head_length + correction_length k blocks + key_length + check_message_length)
