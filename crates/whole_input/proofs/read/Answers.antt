use Rattle.std.proofs.Common.{◌≡◌, ℕ, List, [], ◌++◌, take, Some, None, Option, IfSome, ap, ◌∙◌, arith}
use Rattle.std.specs.Option.{option_map}
use Rattle.std.proofs.lemmas.List.{take-take}
use Rattle.whole_input.proofs.read.Goals as goal

-- what is appended to nothing from an input that is cut
taken : (left : Option (List ℕ)) (limit : ℕ) (before after : List ℕ) → limit ≡ 16385 → before ≡ [] → IfSome (option_map (take limit) left) (λ xs. after ≡ before ++ xs) → IfSome left (λ bytes. after ≡ take 16385 bytes)
taken (Some bytes) limit before after p q h = h ∙ rw (q, p)
taken None limit before after p q h = tt

-- and cut once more
cut_again : (left : Option (List ℕ)) (before after : List ℕ) → after ≡ take 16385 before → IfSome left (λ bytes. before ≡ take 16385 bytes) → IfSome left (λ bytes. after ≡ take 16385 bytes)
cut_again (Some bytes) before after q h = q ∙ ap (λ xs. take 16385 xs) h ∙ take-take 16385 16385 bytes (omega arith)
cut_again None before after q h = tt

pub returns-clause-bytes : goal.returns-clause-bytes
returns-clause-bytes g c =
    let inner = c.take.ensures.inner in
    let came = rw inner at (taken (g.R.Read.remaining c.take.result.inner) _ _ _ c.take.ensures.limit c.new-text.ensures.items c.in_ok-read_to_end.ensures.bytes) in
    cut_again (g.R.Read.remaining c.args.input) _ _ c.truncate.ensures.items came
