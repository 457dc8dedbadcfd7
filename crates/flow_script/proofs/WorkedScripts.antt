-- What four worked scripts mean, computed from their text: a script that plays, one with a sharing, one of version 2, and one that is
-- refused.
use Rattle.std.proofs.Common.{◌≡◌, codes, refl}
use Rattle.std.specs.Prelude.{Ok, Err}
use Rattle.std.specs.Str.{is_utf8, chars}
use Rattle.std.specs.Fmt.{digits}
use Rattle.serde_json.proofs.OnLiterals.{serde_json_on_literals}
use Rattle.script_chain_format.specs.ChainFormat.{most_levels}
use Rattle.script_chain_format.specs.declared.reading.fault.ScriptFault.TheVariants.{UnknownName}
use Rattle.flow_script.specs.ScriptMeaning.{script_meaning}

-- a late subscriber receives the replayed values
pub replay : script_meaning (codes "{\"version\":1,\"flow\":{\"kind\":\"shared\",\"replay\":2,\"extra\":0,\"overflow\":\"suspend\"},\"steps\":[{\"do\":\"try_emit\",\"value\":1},{\"do\":\"try_emit\",\"value\":2},{\"do\":\"try_emit\",\"value\":3},{\"do\":\"cache\"},{\"do\":\"subscribe\",\"name\":\"a\"},{\"do\":\"next\",\"name\":\"a\"},{\"do\":\"next\",\"name\":\"a\"},{\"do\":\"next\",\"name\":\"a\"}]}") ≡ Ok (codes "true\ntrue\ntrue\n[2, 3]\nsubscribed\nvalue 2\nvalue 3\nempty\n")
unfolding serde_json_on_literals is_utf8 chars digits
replay = refl

-- a shared chain stops 100 after its last subscriber left, and starts again
pub share-and-stop : script_meaning (codes "{\"version\":1,\"flow\":{\"kind\":\"share\",\"chain\":{\"from\":{\"of\":[10,20,30,40]},\"ops\":[]},\"started\":{\"stop\":100},\"replay\":0},\"steps\":[{\"do\":\"subscribe\",\"name\":\"a\"},{\"do\":\"turn\",\"at\":0},{\"do\":\"unsubscribe\",\"name\":\"a\"},{\"do\":\"turn\",\"at\":50},{\"do\":\"turn\",\"at\":149},{\"do\":\"subscribe\",\"name\":\"b\"},{\"do\":\"turn\",\"at\":149},{\"do\":\"next\",\"name\":\"b\"},{\"do\":\"unsubscribe\",\"name\":\"b\"},{\"do\":\"turn\",\"at\":200},{\"do\":\"turn\",\"at\":300},{\"do\":\"subscribe\",\"name\":\"c\"},{\"do\":\"turn\",\"at\":301},{\"do\":\"next\",\"name\":\"c\"},{\"do\":\"turn\",\"at\":300}]}") ≡ Ok (codes "subscribed\nstart put\ntrue\nkeep put\nkeep put\nsubscribed\nkeep put\nvalue 40\ntrue\nkeep completed\nstop idle\nsubscribed\nstart put\nvalue 10\nrefused 1 Backwards 301\n")
unfolding serde_json_on_literals is_utf8 chars digits most_levels
share-and-stop = refl

-- a subscriber receives its own first values, and then the emitted values that were not dropped; a late subscriber receives the
-- replayed one
pub own-first-values : script_meaning (codes "{\"version\":2,\"flows\":{\"p\":{\"kind\":\"shared\",\"replay\":1,\"extra\":1,\"overflow\":\"drop_oldest\"}},\"steps\":[{\"do\":\"try_emit\",\"flow\":\"p\",\"value\":1},{\"do\":\"subscribe\",\"flow\":\"p\",\"name\":\"a\",\"first\":[8,9]},{\"do\":\"emit\",\"flow\":\"p\",\"name\":\"e2\",\"value\":2},{\"do\":\"emit\",\"flow\":\"p\",\"name\":\"e3\",\"value\":3},{\"do\":\"emit\",\"flow\":\"p\",\"name\":\"e4\",\"value\":4},{\"do\":\"cache\",\"flow\":\"p\"},{\"do\":\"next\",\"flow\":\"p\",\"name\":\"a\"},{\"do\":\"next\",\"flow\":\"p\",\"name\":\"a\"},{\"do\":\"next\",\"flow\":\"p\",\"name\":\"a\"},{\"do\":\"next\",\"flow\":\"p\",\"name\":\"a\"},{\"do\":\"next\",\"flow\":\"p\",\"name\":\"a\"},{\"do\":\"subscribe\",\"flow\":\"p\",\"name\":\"b\"},{\"do\":\"next\",\"flow\":\"p\",\"name\":\"b\"}]}") ≡ Ok (codes "true\nsubscribed\ndone\ndone\ndone\n[4]\nvalue 8\nvalue 9\nvalue 3\nvalue 4\nempty\nsubscribed\nvalue 4\n")
unfolding serde_json_on_literals is_utf8 chars digits
own-first-values = refl

-- an emission is no subscriber
pub refused-unknown-name : script_meaning (codes "{\"version\":1,\"flow\":{\"kind\":\"shared\",\"replay\":1,\"extra\":0,\"overflow\":\"suspend\"},\"steps\":[{\"do\":\"emit\",\"name\":\"e\",\"value\":1},{\"do\":\"next\",\"name\":\"e\"}]}") ≡ Err (UnknownName 2)
unfolding serde_json_on_literals is_utf8 chars digits
refused-unknown-name = refl
