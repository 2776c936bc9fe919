-- The rules of items: what waits after each, by sort alone. Total on any entries.
use Rattle.std.specs.Prelude.{Bool, true, false, cond, List, [], ◌∷◌, length, reverse, Some, None, Option, nat_lt}
use Rattle.arrayvec.specs.ArrayVec.{ArrayVec}
use Rattle.script.specs.declared.words.Operator.{Operator}
use Rattle.script.specs.declared.words.Operator.TheVariants.{Add, Sub, Mul, Div, Lt, Le, And, Or, Not}
use Rattle.script.specs.declared.words.Word.{Word}
use Rattle.script.specs.declared.words.Word.TheVariants as word
use Rattle.script.specs.declared.tokens.Token.{Token}
use Rattle.script.specs.declared.tokens.Token.TheVariants as token
use Rattle.script.specs.declared.reading.Entry.{Entry}
use Rattle.entries.specs.declared.sorts.Sort.{Sort}
use Rattle.entries.specs.declared.sorts.Sort.TheVariants.{Number, Truth}

-- what waits, the last first
abbrev pub waiting : ArrayVec Sort → List Sort
waiting pile = reverse pile.items

-- one result more waits; at most 8 can
abbrev pub push : Sort → List Sort → Option (List Sort)
push s waits = cond (nat_lt (length waits) 8) (Some (s ∷ waits)) None

-- results of these sorts, the last first, give way to one
abbrev pub of_sorts : List Sort → Sort → List Sort → Option (List Sort)
of_sorts [] s waits = Some (s ∷ waits)
of_sorts (Number ∷ os) s (Number ∷ waits) = of_sorts os s waits
of_sorts (Truth ∷ os) s (Truth ∷ waits) = of_sorts os s waits
of_sorts (o ∷ os) s waits = None

-- what waits after an operator, if it finds operands of its sort
abbrev pub operate : Operator → List Sort → Option (List Sort)
operate Add = of_sorts (Number ∷ Number ∷ []) Number
operate Sub = of_sorts (Number ∷ Number ∷ []) Number
operate Mul = of_sorts (Number ∷ Number ∷ []) Number
operate Div = of_sorts (Number ∷ Number ∷ []) Number
operate Lt = of_sorts (Number ∷ Number ∷ []) Truth
operate Le = of_sorts (Number ∷ Number ∷ []) Truth
operate And = of_sorts (Truth ∷ Truth ∷ []) Truth
operate Or = of_sorts (Truth ∷ Truth ∷ []) Truth
operate Not = of_sorts (Truth ∷ []) Truth

abbrev pub by_reserved : Word → List Sort → Option (List Sort)
by_reserved (word.Line w) waits = None
by_reserved (word.Item o) waits = operate o waits
by_reserved word.One waits = None

-- what waits after an item; nothing, where it breaks the rules
abbrev pub after_item : Token → List Sort → Option (List Sort)
after_item (token.Word w) waits = by_reserved w waits
after_item token.Name waits = push Number waits
after_item (token.Number n) waits = push Number waits
after_item token.Other waits = None

abbrev pub and_then : Option (List Sort) → (List Sort → Option (List Sort)) → Option (List Sort)
and_then (Some s) f = f s
and_then None f = None

-- what waits after these items
abbrev pub after_items : List Entry → List Sort → Option (List Sort)
after_items [] waits = Some waits
after_items (e ∷ es) waits = and_then (after_item e.token waits) (after_items es)

-- one result of this sort alone
abbrev pub alone : Sort → List Sort → Bool
alone Number (Number ∷ []) = true
alone Truth (Truth ∷ []) = true
alone s waits = false

abbrev pub came_to : Sort → Option (List Sort) → Bool
came_to s (Some waits) = alone s waits
came_to s None = false

-- the items give one result of this sort
abbrev pub gives : Sort → List Entry → Bool
gives s es = came_to s (after_items es [])

-- what waits after an answer
abbrev pub seen : Option Unit → ArrayVec Sort → Option (List Sort)
seen (Some u) pile = Some (waiting pile)
seen None pile = None

-- an answered pile as what waits
abbrev pub seen_pile : Option (ArrayVec Sort) → Option (List Sort)
seen_pile (Some pile) = Some (waiting pile)
seen_pile None = None
