-- What a buffer holds that reads fill from its start. Assumes nothing.
use Rattle.std.proofs.Common.{◌≡◌, ℕ, ◌+◌, ◌≤◌, List, ◌++◌, length, take, drop, Some, None, Option, IfSome, sym, ap, subst, ◌∙◌, arith}
use Rattle.std.specs.Io.KnownBytes.{Consumes}
use Rattle.std.proofs.KnownBytes.{Consumes-trans}
use Rattle.std.proofs.Math.Seq.{take-append-add}
use Rattle.std.proofs.lemmas.List.{take-append-le, take-take}

-- a read into the part behind the front adds to it what it gave
pub read_behind : (a b c : Option (List ℕ)) (front part rest : List ℕ) (n more all : ℕ) → length front ≡ n → all ≡ n + more → more ≤ length part
    → Consumes a b front → Consumes b c (take more part) → Consumes a c (take all (front ++ (part ++ rest)))
read_behind a b c front part rest n more all long sum within before read =
    let behind : take (length front + more) (front ++ (part ++ rest)) ≡ front ++ take more part =
    take-append-add front (part ++ rest) more ∙ ap (λ l. front ++ l) (take-append-le more part rest within) in
    let here : all ≡ length front + more = sum ∙ ap (λ k. k + more) (sym long) in
    subst (Consumes a c) (sym (ap (λ k. take k (front ++ (part ++ rest))) here ∙ behind)) (Consumes-trans a b c front (take more part) before read)

-- a vector that was lent, filled and cut to the front that was filled has what stands there
pub cut_to_front : (left : Option (List ℕ)) (buffer items text : List ℕ) (n lent len room : ℕ) → text ≡ take n (take len (buffer ++ drop (length buffer) items))
    → length buffer ≡ lent → lent ≡ len → lent ≡ room → n ≤ length buffer
    → IfSome left (λ bytes. take n buffer ≡ take lent bytes) → IfSome left (λ bytes. text ≡ take room bytes)
cut_to_front None buffer items text n lent len room cut long all full within filled = tt
cut_to_front (Some bytes) buffer items text n lent len room cut long all full within filled =
    let rest = drop (length buffer) items in
    let short : n ≤ len = omega arith in
    cut ∙ take-take n len (buffer ++ rest) short ∙ take-append-le n buffer rest within ∙ filled ∙ ap (λ k. take k bytes) full
