-- Page 0: the head of a paged store.
use Rattle.std.specs.Prelude.{ℕ, ◌^◌, ◌==◌, ◌++◌, List, drop, replicate, Option, Some, None, if◌then◌else◌, nat_lt}
use Rattle.byteorder.specs.Endian.{big_number, big_bytes}
use Rattle.mm_page.specs.Rules.{broken}
use Rattle.mm_page.specs.declared.header.Header.{Header}
use Rattle.mm_page.specs.declared.rules.Violation.{Violation}

-- the text MMKWPG01 as a number
abbrev pub mark : ℕ
mark = 5570191152508252209

-- the header that these bytes spell
abbrev pub header_of : List ℕ → Header
header_of bytes = record { pages = big_number 8 (drop 8 bytes); first = big_number 8 (drop 16 bytes) }

-- the first of a header's own rules that these bytes break
abbrev pub header_fault : List ℕ → Option Violation
header_fault bytes =
    if big_number 8 bytes == mark then (if nat_lt (big_number 8 (drop 8 bytes)) 2 then broken 2 (big_number 8 (drop 8 bytes)) (2 ^ 43)
    else (if nat_lt (2 ^ 43) (big_number 8 (drop 8 bytes)) then broken 2 (big_number 8 (drop 8 bytes)) (2 ^ 43) else None))
    else broken 1 (big_number 8 bytes) mark

-- the bytes of a header: mark, number of pages, first leaf, and 00 behind them
abbrev pub header_bytes : Header → List ℕ
header_bytes h = ((big_bytes 8 mark ++ big_bytes 8 h.pages) ++ big_bytes 8 h.first) ++ replicate 4072 0

-- how many pages a header counts, none where there is none
abbrev pub pages_in : Option Header → ℕ
pages_in None = 0
pages_in (Some h) = h.pages
