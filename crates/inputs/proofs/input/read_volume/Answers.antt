use Rattle.std.proofs.Common.{◌≡◌, ℕ, List, [], Option, Some, None, ◌++◌, take, IfSome, ◌∙◌, subst}
use Rattle.std.specs.Option.{option_map}
use Rattle.inputs.proofs.input.read_volume.Goals as goal

-- what was read into an empty list, where what remains is known
read_all : (all : Option (List ℕ)) (n : ℕ) (before after : List ℕ) → before ≡ [] → n ≡ 65536
    → IfSome (option_map (take n) all) (λ xs. after ≡ before ++ xs) → IfSome all (λ xs. after ≡ take 65536 xs)
read_all None n before after empty is r = r
read_all (Some xs) n before after empty is r = r ∙ (λ i. empty i ++ take (is i) xs)

pub returns : goal.returns
returns g c =
    read_all (g.R.Read.remaining c.args.input) c.take.result.limit c.new-bytes.result.items c.read_to_end.new.buf.items c.new-bytes.ensures.items c.take.ensures.limit
    (subst (λ t. IfSome (option_map (take c.take.result.limit) (g.R.Read.remaining t)) (λ xs. c.read_to_end.new.buf.items ≡ c.new-bytes.result.items ++ xs)) c.take.ensures.inner
    c.in_ok-read_to_end.ensures.bytes)
