-- What holds of the values that a parse of the command found.
use Rattle.std.proofs.Common.{◌∙◌, ◌≡◌, ◌⊎◌, ◌<◌, ℕ, Bool, true, List, [], ◌∷◌, Option, Some, None, map, length, refl, sym, ap, subst, inl, inr, arith, codes, zero, suc, ◌||◌, ◌^◌, ◌-◌, false}
use Rattle.std.specs.List.{All, slice_index_or}
use Rattle.std.specs.Prelude.{option_and_then, option_map, slice_get}
use Rattle.std.proofs.lemmas.List.{get_or-map, length-map}
use Rattle.std.specs.Borrow.{Bor}
use Rattle.std.specs.Str.{bytes_eq}
use Rattle.std.proofs.lemmas.Bool.{cases_lt}
use Rattle.std.proofs.lemmas.Slice.Eq.{bytes_eq-Decides}
use Rattle.clap.specs.Facts.{Entry, EntryPasses, HasReading, PassesArg, ValuesPass, parser_of_value}
use Rattle.clap.specs.Values.{Accepts, reading_of}
use Rattle.clap.specs.Words.{App, IsParsedFrom, app_of, Rule, args_of, first_value, found_of, groups_of, matched_of, one_text, rule_of}
use Rattle.clap.specs.declared.builder.arg.Arg.{Arg}
use Rattle.clap.specs.declared.builder.command.Command.{Command}
use Rattle.clap.specs.declared.builder.value_parser.Reading.{Reading}
use Rattle.clap.specs.declared.builder.value_parser.Reading.TheVariants.{AsWritten}
use Rattle.clap.specs.declared.builder.value_parser.ValueParser.{ValueParser}
use Rattle.clap.specs.declared.builder.value_parser.ValueParser.TheVariants.{Unsigned, Bool as Truth}
use Rattle.clap.specs.declared.parser.matches.ArgMatches.{ArgMatches}
use Rattle.clap.specs.declared.parser.matches.Found.{Found}
use Rattle.clap.specs.declared.parser.matches.MatchedArg.{MatchedArg}
use Rattle.clap.proofs.CallerLemmas.{entry_by_id}
use Rattle.mm_options.specs.Options.{kwstore}
use Rattle.mm_options.specs.Inside.Command.{IsCommandOf, ReadsAs, ReadsOptions}

-- the arguments of this name have this parser
abbrev pub HasParser : List Arg → List ℕ → ValueParser → Type 0
HasParser args name parser = All (λ a. bytes_eq a.id.now name ≡ true → a.value_parser ≡ Some parser) args

-- what a parse builds keeps the parsers of what the crate built, and adds arguments of other names
pub built_parser : (old : Command) (m : ArgMatches) (p : IsParsedFrom old m) (name : List ℕ) (parser : ValueParser)
    → (name ≡ codes "help" → ⊥) → (name ≡ codes "version" → ⊥)
    → HasParser (args_of old) name parser → HasParser (args_of p.built) name parser
built_parser old m p name parser help version has = λ j d lt same.
    elim (cases_lt j (length (args_of old))) [
      | inl under ↦
          let kept = (p.from.kept j d under).1 in
          kept.parser parser (has j d under (rw (← ap (λ x. x.now) kept.id) same))
      | inr over ↦
          let is = (bytes_eq-Decides (slice_index_or (args_of p.built) j d).id.now name).0 same in
          elim (p.from.extra j d over lt) [
            | inl h ↦ absurd (help (sym is ∙ h))
            | inr h ↦ absurd (version (sym is ∙ h))
          ]
    ]

-- a value of the entry passed the parser of its name
accepted : (c : Command) (name : List ℕ) (parser : ValueParser) (value : List ℕ) → HasParser (args_of c) name parser
    → PassesArg c name value → (b : Bool) × Accepts b parser value
accepted c name parser value has any =
    let given : any.1.value_parser ≡ Some parser = subst (λ (a : Arg). a.value_parser ≡ Some parser) any.3 (has any.0 any.1 any.2 (rw any.3 any.4.0)) in
    (any.1.ignore_case, rw (ap parser_of_value given) at any.4.1)

-- and is read as that parser says
read_so : (c : Command) (name : List ℕ) (parser : ValueParser) (how : Reading) → HasParser (args_of c) name parser
    → HasReading c name how → how ≡ reading_of parser
read_so c name parser how has any =
    let given : any.1.value_parser ≡ Some parser = subst (λ (a : Arg). a.value_parser ≡ Some parser) any.3 (has any.0 any.1 any.2 (rw any.3 any.4.0)) in
    sym any.4.1 ∙ ap (λ o. reading_of (parser_of_value o)) given

of_entry : (c : Command) (name : List ℕ) (parser : ValueParser) (e : Entry) (value : Bor (List ℕ)) (rest : List (Bor (List ℕ)))
    → groups_of c ≡ [] → (name ≡ [] → ⊥) → HasParser (args_of c) name parser → reading_of parser ≡ AsWritten
    → e.0.now ≡ name → e.1.vals.items ≡ value ∷ rest → EntryPasses c e
    → (e.1.reading ≡ AsWritten) × ((b : Bool) × Accepts b parser value.now)
of_entry c name parser e value rest groups named has plain key values pass =
    let single : e.1.is_group ≡ true → ⊥ = λ g. elim (pass.3 g) [
      | inl empty ↦ named (sym key ∙ empty)
      | inr lots ↦
          let bad : 0 < 0 = rw groups at lots in
          absurd (omega arith)
    ] in
    let reading : e.1.reading ≡ AsWritten = elim pass.4 [
      | inl g ↦ absurd (single g)
      | inr h ↦ read_so c name parser e.1.reading has (rw key at h) ∙ plain
    ] in
    let passed : PassesArg c name value.now = elim pass.0 [
      | inl g ↦ absurd (single g)
      | inr all ↦ rw (key, values) at (all 0 value (rw values (omega arith)))
    ] in
    (reading, accepted c name parser value.now has passed)

pub value_read : (c : Command) (found : Found) (name : List ℕ) (parser : ValueParser) (text : List ℕ)
    → ValuesPass c found → groups_of c ≡ [] → (name ≡ [] → ⊥) → HasParser (args_of c) name parser → reading_of parser ≡ AsWritten
    → first_value found name ≡ Some text
    → (one_text found name ≡ Some text) × ((b : Bool) × Accepts b parser text)
value_read c found name parser text passes groups named has plain first = go (matched_of found name) refl first
  where
    read : (x : MatchedArg) (v : Bor (List ℕ)) (vs : List (Bor (List ℕ))) → matched_of found name ≡ Some x → x.vals.items ≡ v ∷ vs
        → x.reading ≡ AsWritten → one_text found name ≡ Some v.now
    read x v vs met is how = rw (met, is, how) refl

    at : (x : MatchedArg) → matched_of found name ≡ Some x → (values : List (Bor (List ℕ))) → x.vals.items ≡ values
        → option_map (λ s. s.now) (slice_get values 0) ≡ Some text
        → (one_text found name ≡ Some text) × ((b : Bool) × Accepts b parser text)
    at x met [] is h = cc
    at x met (v ∷ vs) is h =
        let text_is : v.now ≡ text = cc in
        let e = entry_by_id (EntryPasses c) found.entries.items name x passes met in
        let held = of_entry c name parser e.0 v vs groups named has plain ((bytes_eq-Decides e.0.0.now name).0 e.2) (ap (λ y. y.vals.items) e.1 ∙ is) e.3 in
        let how = ap (λ y. y.reading) (sym e.1) ∙ held.0 in
        (read x v vs met is how ∙ ap Some text_is, rw text_is at held.1)

    go : (o : Option MatchedArg) → matched_of found name ≡ o
        → option_and_then (λ a. option_map (λ s. s.now) (slice_get a.vals.items 0)) o ≡ Some text
        → (one_text found name ≡ Some text) × ((b : Bool) × Accepts b parser text)
    go None met h = cc
    go (Some x) met h = at x met x.vals.items refl h

-- ---- the command of the program

-- the arguments of a command have the parsers of its definition
args_parser : (c : Command) (name : List ℕ) (parser : ValueParser) → app_of c ≡ kwstore
    → All (λ (r : Rule). bytes_eq r.id name ≡ true → r.parser ≡ Some parser) kwstore.top.rules
    → HasParser (args_of c) name parser
args_parser c name parser same has = λ j d lt here.
    let rules : map rule_of (args_of c) ≡ kwstore.top.rules = ap (λ (a : App). a.top.rules) same in
    let all : All (λ (r : Rule). bytes_eq r.id name ≡ true → r.parser ≡ Some parser) (map rule_of (args_of c)) = rw rules has in
    let at : slice_index_or (map rule_of (args_of c)) j (rule_of d) ≡ rule_of (slice_index_or (args_of c) j d) = get_or-map rule_of (args_of c) j d (rule_of d) lt in
    let held = all j (rule_of d) (rw (length-map (args_of c) rule_of) lt) in
    rw at at held here

slice_rules : All (λ (r : Rule). bytes_eq r.id (codes "slice") ≡ true → r.parser ≡ Some (Unsigned 0 1024)) kwstore.top.rules
slice_rules zero d lt same = refl
slice_rules (suc zero) d lt same = cc
slice_rules (suc (suc zero)) d lt same = cc
slice_rules (suc (suc (suc zero))) d lt same = cc
slice_rules (suc (suc (suc (suc n)))) d lt same = absurd (omega arith)

limit_rules : All (λ (r : Rule). bytes_eq r.id (codes "limit") ≡ true → r.parser ≡ Some (Unsigned 1024 (2 ^ 40))) kwstore.top.rules
limit_rules zero d lt same = cc
limit_rules (suc zero) d lt same = refl
limit_rules (suc (suc zero)) d lt same = cc
limit_rules (suc (suc (suc zero))) d lt same = cc
limit_rules (suc (suc (suc (suc n)))) d lt same = absurd (omega arith)

read_only_rules : All (λ (r : Rule). bytes_eq r.id (codes "read-only") ≡ true → r.parser ≡ Some Truth) kwstore.top.rules
read_only_rules zero d lt same = cc
read_only_rules (suc zero) d lt same = cc
read_only_rules (suc (suc zero)) d lt same = refl
read_only_rules (suc (suc (suc zero))) d lt same = cc
read_only_rules (suc (suc (suc (suc n)))) d lt same = absurd (omega arith)

sample_rules : All (λ (r : Rule). bytes_eq r.id (codes "sample") ≡ true → r.parser ≡ Some (Unsigned 0 (2 ^ 64 - 1))) kwstore.top.rules
sample_rules zero d lt same = cc
sample_rules (suc zero) d lt same = cc
sample_rules (suc (suc zero)) d lt same = cc
sample_rules (suc (suc (suc zero))) d lt same = refl
sample_rules (suc (suc (suc (suc n)))) d lt same = absurd (omega arith)

-- the values of an option that a parse found
found_values : (c : Command) (m : ArgMatches) (name : List ℕ) (parser : ValueParser) → IsCommandOf c kwstore → IsParsedFrom c m
    → All (λ (r : Rule). bytes_eq r.id name ≡ true → r.parser ≡ Some parser) kwstore.top.rules
    → (name ≡ [] → ⊥) → (name ≡ codes "help" → ⊥) → (name ≡ codes "version" → ⊥) → reading_of parser ≡ AsWritten
    → ReadsAs (found_of m) name (λ text. (b : Bool) × Accepts b parser text)
found_values c m name parser command p rules named help version plain = λ text first.
    let parsed = p.parsed (p.from.globals ∙ command.globals) in
    value_read p.built (found_of m) name parser text parsed.values (p.from.plain command.plain).1 named
    (built_parser c m p name parser help version (args_parser c name parser command.same rules)) plain first

pub options_read : (c : Command) (m : ArgMatches) → IsCommandOf c kwstore → IsParsedFrom c m → ReadsOptions (found_of m)
options_read c m command p = record {
  slice = λ text first. let h = found_values c m (codes "slice") (Unsigned 0 1024) command p slice_rules (λ e. cc) (λ e. cc) (λ e. cc) refl text first in (h.0, h.1.1);
  limit = λ text first. let h = found_values c m (codes "limit") (Unsigned 1024 (2 ^ 40)) command p limit_rules (λ e. cc) (λ e. cc) (λ e. cc) refl text first in (h.0, h.1.1);
  read_only = λ text first. let h = found_values c m (codes "read-only") Truth command p read_only_rules (λ e. cc) (λ e. cc) (λ e. cc) refl text first in (h.0, truth_text text h.1.1);
  sample = λ text first. let h = found_values c m (codes "sample") (Unsigned 0 (2 ^ 64 - 1)) command p sample_rules (λ e. cc) (λ e. cc) (λ e. cc) refl text first in (h.0, h.1.1);
}
  where
    truth_text : (text : List ℕ) → (bytes_eq text (codes "true") || bytes_eq text (codes "false")) ≡ true → (text ≡ codes "true") ⊎ (text ≡ codes "false")
    truth_text text h = go (bytes_eq text (codes "true")) refl h
      where
        go : (b : Bool) → bytes_eq text (codes "true") ≡ b → (b || bytes_eq text (codes "false")) ≡ true → (text ≡ codes "true") ⊎ (text ≡ codes "false")
        go true e h = inl ((bytes_eq-Decides text (codes "true")).0 e)
        go false e h = inr ((bytes_eq-Decides text (codes "false")).0 h)
