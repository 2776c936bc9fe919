-- Entries written one after another. Assumes nothing.
use Rattle.std.proofs.Common.{◌≡◌, ℕ, ◌+◌, ◌<◌, ◌≤◌, List, [], ◌∷◌, ◌++◌, length, take, drop, set, sym, ap, ◌∙◌, arith}
use Rattle.std.proofs.lemmas.List.{append_assoc, take-append-drop, take_more_set, drop-set-lt, length-map, length-set}
use Rattle.script.specs.declared.reading.Entry.{Entry}
use Rattle.script.specs.Places.{places}
use Rattle.script.specs.Reading.{entry_of, entries, filled}

-- a table, with these entries written from index `i` on
abbrev pub put : ℕ → List Entry → List Entry → List Entry
put i [] table = table
put i (e ∷ es) table = put (i + 1) es (set table i e)

put_is : (i : ℕ) (es : List Entry) (table : List Entry) → i + length es ≤ length table → put i es table ≡ take i table ++ (es ++ drop (i + length es) table)
put_is i [] table h =
    let e : i + 0 ≡ i = omega arith in
    sym (take-append-drop i table) ∙ ap (λ k. take i table ++ drop k table) (sym e)
put_is i (x ∷ es) table h =
    let lt : i < length table = omega arith in
    let within : i + 1 + length es ≤ length (set table i x) = omega (arith, length-set table i x) in
    let n : i + 1 + length es ≡ i + length (x ∷ es) = omega arith in
    let past : i < i + 1 + length es = omega arith in
    put_is (i + 1) es (set table i x) within
    ∙ ap (λ xs. xs ++ (es ++ drop (i + 1 + length es) (set table i x))) (take_more_set table i x lt)
    ∙ ap (λ xs. (take i table ++ x ∷ []) ++ (es ++ xs)) (drop-set-lt (i + 1 + length es) table i x past ∙ ap (λ k. drop k table) n)
    ∙ append_assoc (take i table) (x ∷ []) _

-- all entries of a text, written from the beginning on
pub record PutsAll (text : List ℕ) (n : ℕ) (es : List Entry) (table : List Entry) : Type 0 where
  pub puts : filled text table ≡ put n es table
  pub fits : n + length es ≤ length table

pub puts_all : (text : List ℕ) (n : ℕ) (es : List Entry) (table : List Entry) → n ≡ 0 → es ≡ entries text → length (places text) ≤ length table → PutsAll text n es table
puts_all text n es table e f h =
    let m : length (entries text) ≡ length (places text) = length-map (places text) (entry_of text) in
    let within : 0 + length (entries text) ≤ length table = omega arith in
    let k : 0 + length (entries text) ≡ length (places text) = omega arith in
    rw (e, f) (record { puts = sym (put_is 0 (entries text) table within ∙ ap (λ j. entries text ++ drop j table) k); fits = within })
