mod SampleRules
