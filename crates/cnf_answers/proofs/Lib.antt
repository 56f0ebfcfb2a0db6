mod ModelLemmas
