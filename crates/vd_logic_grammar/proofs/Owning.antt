-- The name of a header is a name.
use Rattle.std.proofs.Common.{ℕ, ◌≡◌, true, List, Result, Ok, Err, IfOk}
use Rattle.vd_base.specs.Name.{is_name}
use Rattle.vd_grammar.specs.declared.fault.ParseFault.{ParseFault}
use Rattle.vd_section.specs.HeaderLine.{named_header}
use Rattle.vd_section.specs.Naming.{named_own}
use Rattle.vd_logic_grammar.specs.declared.front.Front.{Front}
use Rattle.vd_logic_grammar.specs.declared.kind.Kind.{Kind}
use Rattle.vd_logic_grammar.specs.declared.kind.Kind.TheVariants as k
use Rattle.vd_logic_grammar.specs.declared.language.Language.{Language}
use Rattle.vd_logic_grammar.specs.Fits.{may_be}
use Rattle.vd_logic_grammar.specs.Fronts.{HasFront}
use Rattle.vd_logic_grammar.specs.Kinds.{same}
use Rattle.vd_logic_grammar.specs.Words.{word_kind, is_header_name}
use Rattle.vd_logic_grammar.proofs.Fitting.{word_fits}

own_kind : (kind : Kind) (word : List ℕ) → same k.Own kind ≡ true → may_be kind word 0 ≡ true → is_name word ≡ true
own_kind k.Own word h g = g
own_kind _ word h g = cc

header_name : (l : Language) (name : List ℕ) → is_header_name l name ≡ true → is_name name ≡ true
header_name l name h = own_kind (word_kind l name name) name h (word_fits l name name)

pub front_named : (l : Language) (kind text : List ℕ) (r : Result Front ParseFault) → HasFront l (named_header (is_header_name l) kind text) r → IfOk r (λ it. is_name it.own.now ≡ true)
front_named l kind text (Ok front) x = header_name l front.own.now (named_own (is_header_name l) kind text front.own.now x.behind x.body x.cut)
front_named l kind text (Err why) x = tt
