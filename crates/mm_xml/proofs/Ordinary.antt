-- Going over ordinary characters.
use Rattle.std.proofs.Common.{◌≡◌, ℕ, Bool, true, false, ◌&&◌, List, [], ◌∷◌, ◌++◌, length, take, drop, ◌-◌, refl, sym, ap, subst, ◌∙◌, append_assoc}
use Rattle.std.specs.List.{list_all}
use Rattle.std.specs.Str.{IsUtf8, chars}
use Rattle.std.proofs.lemmas.List.{take_at, drop_at}
use Rattle.std.proofs.lemmas.List.Folds.{list_all-append}
use Rattle.std.proofs.lemmas.Bool.{and_from}
use Rattle.mm_xml.specs.Inside.Lexing.{span}
use Rattle.mm_xml.specs.Inside.Passages.{is_ordinary}
use Rattle.mm_xml.proofs.Spans.{Stops, span_again}
use Rattle.mm_xml.proofs.TextFacts.{Cut, cut}

-- all characters before the rest are ordinary
pub record Behind (cs rest : List ℕ) : Type 0 where
  pub front : List ℕ
  pub whole : cs ≡ front ++ rest
  pub each : list_all is_ordinary front ≡ true

pub one_more : (cs here rest : List ℕ) (c : ℕ) (b : Bool) → Behind cs here → here ≡ c ∷ rest → b ≡ is_ordinary c → b ≡ true → Behind cs rest
one_more cs here rest c b behind e is h = record {
  front = behind.front ++ c ∷ [];
  whole = behind.whole ∙ ap (λ (r : List ℕ). behind.front ++ r) e ∙ sym (append_assoc behind.front (c ∷ []) rest);
  each = list_all-append is_ordinary behind.front (c ∷ []) ∙ and_from (list_all is_ordinary behind.front) (is_ordinary c && true) behind.each (and_from (is_ordinary c) true (sym is ∙ h) refl);
}

pub no_more : (rest : List ℕ) → rest ≡ [] → Stops is_ordinary rest
no_more [] e = tt
no_more (c ∷ cs) e = absurd cc

pub another : (rest cs : List ℕ) (c : ℕ) (b : Bool) → rest ≡ c ∷ cs → b ≡ is_ordinary c → b ≡ false → Stops is_ordinary rest
another rest cs c b e is h = subst (λ (r : List ℕ). Stops is_ordinary r) (sym e) (sym is ∙ h)

-- where the text is cut
pub cut_behind : (text rest : List ℕ) → IsUtf8 text → IsUtf8 rest → (b : Behind (chars text) (chars rest)) → Cut text rest (length b.front)
cut_behind text rest utf8 utf8_rest b = cut text rest (length b.front) utf8 utf8_rest (sym (drop_at b.front (chars rest) (length b.front) refl) ∙ ap (λ (r : List ℕ). drop (length b.front) r) (sym b.whole))

span_is : (text rest : List ℕ) (b : Behind (chars text) (chars rest)) → Stops is_ordinary (chars rest) → span is_ordinary (chars text) ≡ (b.front, chars rest)
span_is text rest b stop = ap (λ (r : List ℕ). span is_ordinary r) b.whole ∙ span_again is_ordinary b.front (chars rest) b.each stop

pub front_is : (text rest : List ℕ) → IsUtf8 text → IsUtf8 rest → Behind (chars text) (chars rest) → Stops is_ordinary (chars rest) → chars (take (length text - length rest) text) ≡ (span is_ordinary (chars text)).0
front_is text rest utf8 utf8_rest b stop =
    (cut_behind text rest utf8 utf8_rest b).front
    ∙ ap (λ (r : List ℕ). take (length b.front) r) b.whole ∙ take_at b.front (chars rest) (length b.front) refl
    ∙ sym (ap (λ (y : List ℕ × List ℕ). y.0) (span_is text rest b stop))

pub back_is : (text rest : List ℕ) → IsUtf8 text → IsUtf8 rest → Behind (chars text) (chars rest) → Stops is_ordinary (chars rest) → chars (drop (length text - length rest) text) ≡ (span is_ordinary (chars text)).1
back_is text rest utf8 utf8_rest b stop = ap chars (cut_behind text rest utf8 utf8_rest b).back ∙ sym (ap (λ (y : List ℕ × List ℕ). y.1) (span_is text rest b stop))
