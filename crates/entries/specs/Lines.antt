-- Whose packet a kept entry is, and the line of text that tells an entry.
-- SPEC P-3 has the APID and the sequence flags, G-9 what is kept and what is skipped.
-- Assumes nothing: these are definitions.
use Rattle.std.specs.Prelude.{ℕ, zero, suc, ◌+◌, ◌-◌, ◌/◌, ◌%◌, List, [], ◌∷◌, ◌++◌, eqb, ltb}
use Rattle.octets.specs.Octets.{pick, octet_at, number, part}
use Rattle.packet.specs.Answer.{Header}
use Rattle.packet.specs.Format.{flags_whole}
use Rattle.cells.specs.Inner.{counter_in}
use Rattle.entries.specs.declared.Identity.{Identity}

-- the kind of a kept entry; every other number is a stretch's
abbrev pub kept_kind : ℕ
kept_kind = 1

-- the octets of the mark before a kept packet
abbrev pub mark_size : ℕ
mark_size = 2

-- ---- whose packet it is

-- by what reading answers
abbrev pub identity_of : Header → Identity
identity_of h =
    record {
      apid = h.primary.apid.0;
      transaction = h.fixed.transaction;
      flags = h.primary.flags;
      counter = h.ids.counter.0;
    }

-- by its octets, for any octets: a packet that reading accepts has the same
abbrev pub flags_in : List ℕ → ℕ
flags_in p = octet_at p 2 / 64

unfoldable pub identity_in : List ℕ → Identity
identity_in p =
    record {
      apid = number 2 p 0 % 2048;
      transaction = number 8 p 18;
      flags = flags_in p;
      counter = pick (eqb (flags_in p) flags_whole) 0 (counter_in p);
    }

-- ---- text

-- a number in decimal digits, as few as can be, of f at most
unfoldable pub decimal_in : ℕ → ℕ → List ℕ
decimal_in zero n = []
decimal_in (suc f) n =
    let r = decimal_in f (n / 10) in
    let more = r ++ ((48 + n % 10) ∷ []) in
    pick (ltb n 10) ((48 + n) ∷ []) more

-- 64 bits have twenty digits at most
abbrev pub decimal : ℕ → List ℕ
decimal n = decimal_in 20 n

abbrev pub comma : List ℕ
comma = 0x2c ∷ []

abbrev pub newline : List ℕ
newline = 0x0a ∷ []

-- "kept", "skipped"
abbrev pub kept_word : List ℕ
kept_word = 0x6b ∷ 0x65 ∷ 0x70 ∷ 0x74 ∷ []

abbrev pub skipped_word : List ℕ
skipped_word = 0x73 ∷ 0x6b ∷ 0x69 ∷ 0x70 ∷ 0x70 ∷ 0x65 ∷ 0x64 ∷ []

-- the sequence flags in a word: 1 "first", 2 "last", 3 "unsegmented", else "continuation"
unfoldable pub flags_word : ℕ → List ℕ
flags_word f =
    pick (eqb f 1) (0x66 ∷ 0x69 ∷ 0x72 ∷ 0x73 ∷ 0x74 ∷ [])
    (pick (eqb f 2) (0x6c ∷ 0x61 ∷ 0x73 ∷ 0x74 ∷ [])
    (pick (eqb f 3) (0x75 ∷ 0x6e ∷ 0x73 ∷ 0x65 ∷ 0x67 ∷ 0x6d ∷ 0x65 ∷ 0x6e ∷ 0x74 ∷ 0x65 ∷ 0x64 ∷ [])
    (0x63 ∷ 0x6f ∷ 0x6e ∷ 0x74 ∷ 0x69 ∷ 0x6e ∷ 0x75 ∷ 0x61 ∷ 0x74 ∷ 0x69 ∷ 0x6f ∷ 0x6e ∷ [])))

-- ---- the lines, in pieces

abbrev pub next_pieces : ℕ → List (List ℕ)
next_pieces n = comma ∷ decimal n ∷ []

-- an unsegmented packet has no counter
unfoldable pub counter_pieces : ℕ → ℕ → List (List ℕ)
counter_pieces f c = pick (eqb f flags_whole) (comma ∷ []) (next_pieces c)

abbrev pub flags_pieces : ℕ → ℕ → List (List ℕ)
flags_pieces f c = (comma ∷ flags_word f ∷ []) ++ counter_pieces f c

-- the first column, the place and the length
abbrev pub entry_pieces : List ℕ → ℕ → ℕ → List (List ℕ)
entry_pieces word at n = (word ∷ []) ++ (next_pieces at ++ next_pieces n)

unfoldable pub kept_pieces : ℕ → ℕ → Identity → List (List ℕ)
kept_pieces at n i =
    entry_pieces kept_word at n
    ++ (next_pieces i.apid
    ++ (next_pieces i.transaction ++ (flags_pieces i.flags i.counter ++ (newline ∷ []))))

unfoldable pub skipped_pieces : ℕ → ℕ → List (List ℕ)
skipped_pieces at n = entry_pieces skipped_word at n ++ ((0x2c ∷ 0x2c ∷ 0x2c ∷ 0x2c ∷ 0x0a ∷ []) ∷ [])

-- ---- an entry, with the part of the file in hand from `off` on

-- the octets of an entry: of a kept one mark and packet as they stand in the part, of a stretch none
unfoldable pub kept_octets : List ℕ → ℕ → ℕ → ℕ → ℕ → List ℕ
kept_octets y off kind at n = pick (eqb kind kept_kind) (part y (at - off) n) []

-- the packet is what stands after the mark
unfoldable pub line_pieces : List ℕ → ℕ → ℕ → ℕ → ℕ → List (List ℕ)
line_pieces y off kind at n =
    pick (eqb kind kept_kind) (kept_pieces at n (identity_in (part (kept_octets y off kind at n) mark_size n))) (skipped_pieces at n)
